-- `granting::chain_outcome` meets its contract: each outcome by the tests that led to it (Deciding). The steps that were counted tell whether the
-- claim has fewer hands left, and for so many steps the walk asks along the chain (`circles_places`). Assumes nothing.
use Rattle.std.proofs.Common.{◌≡◌, sym, ap, ◌∙◌, ◌∷◌, suc, ltb, get_or, ℕ, Bool}
use Rattle.columns.specs.Columns.{places_up}
use Rattle.claim_judging.specs.Over.{hands_at}
use Rattle.claim_judging.specs.OverLaws.{circles_places}
use Rattle.granting.proofs.Deciding.{too_many_hops, circle, no_circle}
use Rattle.register.specs.declared.Claim.{Claim}
use Rattle.granting.proofs.chain_outcome.Goals as goal

-- the hands of the claim and of its parent, by the count of the steps
fewer_told : (version : ℕ) (p c : Claim) {n steps : ℕ} {b : Bool} → b ≡ ltb (hands_at version (suc n) c) (hands_at version n p) → n ≡ steps
    → b ≡ ltb (hands_at version (suc steps) c) (hands_at version steps p)
fewer_told version p c h e = h ∙ ap (λ n. ltb (hands_at version (suc n) c) (hands_at version n p)) e

pub returns-then-not-fewer_left : goal.returns-then-not-fewer_left
returns-then-not-fewer_left c =
    let a = c.args in
    sym
    (too_many_hops (λ j. get_or a.grantors.now j 0) (λ j. get_or a.holders.now j 0) _ (a.at ∷ places_up a.ups.now a.at) a.c.holder
    (sym (fewer_told a.version a.p a.c c.fewer_left.ensures c.steps_up-steps.ensures) ∙ c.if-not-fewer_left.true))

pub returns-then-circles_up : goal.returns-then-circles_up
returns-then-circles_up c =
    let a = c.args in
    sym
    (circle (λ j. get_or a.grantors.now j 0) (λ j. get_or a.holders.now j 0) _ (a.at ∷ places_up a.ups.now a.at) a.c.holder
    (sym (fewer_told a.version a.p a.c c.fewer_left.ensures c.steps_up-steps.ensures) ∙ c.if-not-fewer_left.false)
    (sym
    (c.circles_up.ensures ∙ circles_places a.ups.now a.grantors.now a.holders.now a.c.holder _ a.at (sym c.steps_up-steps.ensures))
    ∙ c.if-circles_up.true))

pub returns : goal.returns
returns c =
    let a = c.args in
    sym
    (no_circle (λ j. get_or a.grantors.now j 0) (λ j. get_or a.holders.now j 0) _ (a.at ∷ places_up a.ups.now a.at) a.c.holder
    (sym (fewer_told a.version a.p a.c c.fewer_left.ensures c.steps_up-steps.ensures) ∙ c.if-not-fewer_left.false)
    (sym
    (c.circles_up.ensures ∙ circles_places a.ups.now a.grantors.now a.holders.now a.c.holder _ a.at (sym c.steps_up-steps.ensures))
    ∙ c.if-circles_up.false))
