-- `replay_program::put`: the array has 2,325 bytes.
use Rattle.std.proofs.Common.{take, ap, ◌∙◌}
use Rattle.replay_program.proofs.put.Goals as goal

pub returns : goal.returns
returns c = c.copy.ensures ∙ ap (λ n. take n c.args.file.now) c.told-input
