-- What the code's tests tell: the number of a cell, the state of a claim, the outcome of the tests. Assumes nothing.
use Rattle.std.proofs.Common.{Result, Err, Ok, ◌≡◌, sym, ◌∙◌, Bool, true, false, not, ◌&&◌, List, ℕ, ◌<◌, ◌≤◌, arith, ne_eqb, lt-ltb, le-ltb, le-leb, eqb, ltb, leb, take}
use Rattle.refusals.specs.declared.Refusal.{Refusal}
use borrow.Author.Tests.{lt-leb, not-true, not-false}
use Rattle.lists.specs.Lists.{any}
use Rattle.register.specs.Limits.{id_limit, moment_end}
use Rattle.register.specs.Chain.{current, expired}
use Rattle.register.specs.declared.Claim.{Claim}
use Rattle.refusals.specs.Refusals.{outcome_of}
use Rattle.refusals.proofs.Laws.{outcome_pass, outcome_fail, outcome_nil}
use Rattle.refusals.specs.declared.Refusal.TheVariants.{Unsound, Range, Absent}
use Rattle.table_showing.specs.Shown.{state_number}
use Rattle.table_showing.specs.Columns.{tests_by}

-- ---- a claim
module _ (moment : ℕ) (c : Claim) (lives : Bool) where
  -- a claim with weight is current unless it has expired
  current_weighing : (c.weight ≡ 0 → ⊥) → current moment c ≡ not (expired moment c)
  current_weighing some = rw (lt-ltb 0 c.weight (omega (arith, some)))

  module _ (some : c.weight ≡ 0 → ⊥) {here : Bool} (told : here ≡ current moment c) where
    pub state_expired : here ≡ false → 3 ≡ state_number moment c lives
    state_expired gone =
        let past : expired moment c ≡ true = not-false (expired moment c) (sym (current_weighing some) ∙ sym told ∙ gone) in
        rw (ne_eqb c.weight 0 some, past)

    lasting : here ≡ true → expired moment c ≡ false
    lasting stays = not-true (expired moment c) (sym (current_weighing some) ∙ sym told ∙ stays)

    pub state_live : here ≡ true → lives ≡ true → 1 ≡ state_number moment c lives
    state_live stays living = rw (ne_eqb c.weight 0 some, lasting stays, living)

    pub state_dead : here ≡ true → lives ≡ false → 4 ≡ state_number moment c lives
    state_dead stays dead = rw (ne_eqb c.weight 0 some, lasting stays, dead)

-- ---- the tests
module _ (whole : Bool) (names : List ℕ) (n actor moment : ℕ) where
  abbrev asked : Result Unit Refusal
  asked = outcome_of (tests_by whole names n actor moment)

  pub told_unsound : whole ≡ false → Err Unsound ≡ asked
  told_unsound e = sym (outcome_fail _ _ e)

  module _ (held : whole ≡ true) where
    range_failed : leb actor id_limit && ltb moment moment_end ≡ false → Err Range ≡ asked
    range_failed e = sym (outcome_pass _ _ held ∙ outcome_fail _ _ e)

    pub told_actor : id_limit < actor → Err Range ≡ asked
    told_actor past = range_failed (rw (lt-leb actor id_limit past))

    module _ (known : actor ≤ id_limit) where
      pub told_moment : moment_end ≤ moment → Err Range ≡ asked
      told_moment past = range_failed (rw (le-leb actor id_limit known, le-ltb moment moment_end past))

      module _ (timely : moment < moment_end) where
        in_range : leb actor id_limit && ltb moment moment_end ≡ true
        in_range = rw (le-leb actor id_limit known, lt-ltb moment moment_end timely)

        pub told_absent : any (eqb actor) (take n names) ≡ false → Err Absent ≡ asked
        told_absent e = sym (outcome_pass _ _ held ∙ outcome_pass _ _ in_range ∙ outcome_fail _ _ e)

        pub told_accepted : any (eqb actor) (take n names) ≡ true → (Ok tt) ≡ asked
        told_accepted e = sym (outcome_pass _ _ held ∙ outcome_pass _ _ in_range ∙ outcome_pass _ _ e ∙ outcome_nil)
