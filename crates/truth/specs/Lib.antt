-- What it means that a blurred value is true: document 02's twelfth request.
pub mod Truth
