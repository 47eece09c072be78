-- `soundness::actors::keepers_fit` meets its contract. Assumes nothing.
use Rattle.std.proofs.Common.{◌≡◌, ℕ, refl, sym, ap, ◌∙◌, ltb, length, take, get_or, arith, rules}
use Rattle.std.proofs.lemmas.List.{take_all}
use Rattle.lists.specs.Lists.{every}
use Rattle.register.specs.Limits.{claim_limit}
use Rattle.soundness.specs.WorldLaws.{every_places}
use Rattle.soundness.proofs.Fitting.{keepers_told}
use Rattle.soundness.proofs.actors.keepers_fit.Goals as goal

pub returns : goal.returns
returns c =
    let given = c.args in
    let test : ℕ → _ = λ p. ltb p claim_limit in
    let places = c.places_of-keeping.result.places in
    let room : length places ≡ claim_limit = search rules in
    c.loop-place.invariant
    ∙ ap (every test) (take_all c.loop-place.place-index (take c.min-top.result places) c.loop-place-test.false)
    ∙ sym (every_places (λ i. test (get_or places i 0)) test 0 places c.min-top.result (omega (arith, room, c.min-top.ensures)) (λ i inside. refl))
    ∙ keepers_told c.human_ids-humans.result given.n given.keepers.now given.m c.min-top.ensures c.places_of-keeping.ensures
    ∙ rw c.human_ids-humans.ensures
