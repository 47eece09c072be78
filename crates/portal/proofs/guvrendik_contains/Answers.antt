-- The numbers are those of the inner answer.
use Rattle.std.proofs.Common.{ap, ◌∙◌}
use Rattle.answers.specs.Laws.{containment_told, containment_of}
use Rattle.portal.proofs.guvrendik_contains.Goals as goal

pub returns : goal.returns
returns c = c.contained.ensures ∙ ap containment_of c.contains.ensures ∙ containment_told _ _
