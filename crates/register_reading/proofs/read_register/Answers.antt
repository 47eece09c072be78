-- The answer is by the lines that were read, and by where the reading ended.
use Rattle.std.proofs.Common.{◌∙◌}
use Rattle.text_rules.specs.Registers.{register_read}
use Rattle.register_reading.proofs.read_register.Goals as goal

pub returns : goal.returns
unfolding register_read
returns c = let form = c.read_form-form.ensures in c.answer.ensures ∙ rw (form.register, form.state)
