-- The answer to what a withdrawal leaves is the withdrawal's (`withdrawn_natural`).
use Rattle.std.proofs.Common.{ap, ◌∙◌}
use Rattle.change_rules.specs.Changes.{clear_resource}
use Rattle.answers.specs.Laws.{withdrawn_answer, withdrawn_natural}
use Rattle.portal.proofs.guvrendik_clear_resource.Goals as goal

pub returns : goal.returns
returns c =
    let given = c.args in
    c.withdrawn.ensures ∙ ap (withdrawn_answer given.r) c.clear_resource.ensures ∙ withdrawn_natural given.r (clear_resource given.caller given.resource)
