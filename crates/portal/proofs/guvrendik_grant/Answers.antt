-- The answer to a grant's own outcome is the grant's (`granted_natural`).
use Rattle.std.proofs.Common.{ap, ◌∙◌}
use Rattle.answers.specs.Laws.{granted_answer, granted_natural}
use Rattle.portal.proofs.guvrendik_grant.Goals as goal

pub returns : goal.returns
returns c =
    let given = c.args in
    c.granted.ensures
    ∙ ap (λ g. granted_answer given.r g.claim g.outcome) c.grant_outcome-settled.ensures
    ∙ granted_natural given.r given.c given.moment
