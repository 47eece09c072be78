-- A reason put together step by step is that by the columns. Assumes nothing.
use Rattle.std.proofs.Common.{Option, ℕ, None, Some, Ok, ◌≡◌, refl, sym, ap, ◌∙◌, Bool, true, false, ◌&&◌, cond, List, ne_eqb, eqb, get_or}
use Rattle.rights.specs.Rights.{reading}
use Rattle.columns.specs.Sheet.{column_of, holder_column, rights_column}
use Rattle.soundness.specs.declared.Findings.{Findings}
use Rattle.gate.specs.declared.Counts.{Counts}
use Rattle.reasons.specs.Reasons.{telling_none}
use Rattle.reasons.specs.Uses.{told_of}
use Rattle.reasons.specs.declared.Told.{Told}
use Rattle.reasons.specs.declared.UseTold.{UseTold}
use Rattle.reason_finding.specs.declared.Ask.{Ask}
use Rattle.reason_finding.specs.Finding.{chain_told, ended_by, held_place, always, whole, told_at, lacking_by, missing_by, reason_by, owner_for, ask_of, use_by}

module _ (n : ℕ) (found : Findings) (lens sheet bytes : List ℕ) (ask : Ask) {place : Option ℕ} where
  module _ (of-place : place ≡ held_place (column_of holder_column sheet) always whole found.spots bytes lens n ask) where
    lacking_place : (p : Option ℕ) → place ≡ p → told_at (λ j. chain_told 4 sheet found.ups j 0) p (told_of (telling_none 5)) ≡ lacking_by n found lens sheet bytes ask
    unfolding lacking_by
    lacking_place p e =
        ap (λ q. told_at (λ j. chain_told 4 sheet found.ups j 0) q (told_of (telling_none 5)))
        (sym e ∙ of-place)

    pub lacking_at : (j : ℕ) → place ≡ Some j → {answer : Told} → answer ≡ chain_told 4 sheet found.ups j 0 → answer ≡ lacking_by n found lens sheet bytes ask
    lacking_at j e answered = answered ∙ lacking_place (Some j) e

    pub lacking_none : place ≡ None → {answer : Told} → answer ≡ told_of (telling_none 5) → answer ≡ lacking_by n found lens sheet bytes ask
    lacking_none e answered = answered ∙ lacking_place None e

  module _ {rights : List ℕ} (of-rights : rights ≡ column_of rights_column sheet) where
    module _ (of-place : place ≡ held_place (column_of holder_column sheet) always rights found.spots bytes lens n ask) where
      missing_place : (p : Option ℕ) → place ≡ p
          → told_at (λ j. chain_told 3 sheet found.ups j (ended_by sheet found.ups ask.moment j)) p (lacking_by n found lens sheet bytes ask)
          ≡ missing_by n found lens sheet bytes ask
      unfolding missing_by
      missing_place p e =
          ap (λ q. told_at (λ j. chain_told 3 sheet found.ups j (ended_by sheet found.ups ask.moment j)) q (lacking_by n found lens sheet bytes ask))
          (sym e ∙ of-place
          ∙ ap (λ l. held_place (column_of holder_column sheet) always l found.spots bytes lens n ask) of-rights)

      pub missing_at : (j : ℕ) → place ≡ Some j → {t : Told} {at : ℕ} → t ≡ chain_told 3 sheet found.ups j 0 → at ≡ ended_by sheet found.ups ask.moment j
          → ◌≡◌ {A = Told} (record { kind = t.kind; count = t.count; chain = t.chain; keeper = t.keeper; ended = at }) (missing_by n found lens sheet bytes ask)
      missing_at j e of-told of-ended = rw (of-told, of-ended) (missing_place (Some j) e)

      pub missing_none : place ≡ None → {answer : Told} → answer ≡ lacking_by n found lens sheet bytes ask → answer ≡ missing_by n found lens sheet bytes ask
      missing_none e answered = answered ∙ missing_place None e

    module _ (ends : List ℕ) (of-place : place ≡ held_place (column_of holder_column sheet) ends rights found.spots bytes lens n ask) where
      reason_place : (p : Option ℕ) → place ≡ p → (b : Bool) → eqb ask.right reading && eqb (get_or found.resources.publics ask.spot 0) 1 ≡ b
          → told_at (λ j. chain_told 1 sheet found.ups j 0) p (cond b (told_of (telling_none 2)) (missing_by n found lens sheet bytes ask))
          ≡ reason_by n found lens ends sheet bytes ask
      unfolding reason_by
      reason_place p e b k =
          ap (λ c. told_at (λ j. chain_told 1 sheet found.ups j 0) p (cond c (told_of (telling_none 2)) (missing_by n found lens sheet bytes ask))) (sym k)
          ∙ ap (λ q. told_at (λ j. chain_told 1 sheet found.ups j 0) q
          (cond (eqb ask.right reading && eqb (get_or found.resources.publics ask.spot 0) 1) (told_of (telling_none 2)) (missing_by n found lens sheet bytes ask)))
          (sym e ∙ of-place
          ∙ ap (λ l. held_place (column_of holder_column sheet) ends l found.spots bytes lens n ask) of-rights)

      pub reason_at : (j : ℕ) → place ≡ Some j → {answer : Told} → answer ≡ chain_told 1 sheet found.ups j 0 → answer ≡ reason_by n found lens ends sheet bytes ask
      reason_at j e answered = answered ∙ reason_place (Some j) e _ refl

      module _ (e : place ≡ None) {public : ℕ} (of-public : public ≡ get_or found.resources.publics ask.spot 0) where
        pub reason_open : eqb ask.right reading && eqb public 1 ≡ true → {answer : Told} → answer ≡ told_of (telling_none 2) → answer ≡ reason_by n found lens ends sheet bytes ask
        reason_open t answered = answered ∙ reason_place None e true (sym (ap (λ m. eqb ask.right reading && eqb m 1) of-public) ∙ t)

        pub reason_missing : eqb ask.right reading && eqb public 1 ≡ false → {answer : Told} → answer ≡ missing_by n found lens sheet bytes ask
            → answer ≡ reason_by n found lens ends sheet bytes ask
        reason_missing t answered = answered ∙ reason_place None e false (sym (ap (λ m. eqb ask.right reading && eqb m 1) of-public) ∙ t)

-- the two reasons
module _ (counts : Counts) (found : Findings) (lens ends sheet bytes : List ℕ) (ask : Ask) {owner : ℕ} {actor owners : Told}
    (of-actor : actor ≡ reason_by counts.claims found lens ends sheet bytes ask) (of_owner : owner ≡ owner_for found counts.actors ask.actor) where
  pub both_alone : owner ≡ 0 → owners ≡ told_of (telling_none 0)
      → ◌≡◌ {A = UseTold} (record { outcome = Ok tt; actor = actor; owner = 0; owners = owners }) (use_by counts found lens ends sheet bytes ask)
  unfolding use_by
  both_alone none of-owners = rw (of-actor, of-owners, sym of_owner ∙ none)

  pub both_owned : (owner ≡ 0 → ⊥) → owners ≡ reason_by counts.claims found lens ends sheet bytes (ask_of ask owner)
      → ◌≡◌ {A = UseTold} (record { outcome = Ok tt; actor = actor; owner = owner; owners = owners }) (use_by counts found lens ends sheet bytes ask)
  unfolding use_by
  both_owned some of-owners = rw (of-actor, of-owners, ← of_owner, ne_eqb owner 0 some)
