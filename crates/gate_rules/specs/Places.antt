-- Laws: Places of a list, and the first element that passes a test. Assumes nothing.
use Rattle.std.specs.Prelude.{◌≡◌, Bool, true, false, ◌⊎◌, List, [], ◌∷◌, ◌++◌}
use Rattle.std.proofs.Common.{ap, ◌∙◌, inl, inr, append_assoc}
use Rattle.std.proofs.Math.Path.{refl}
use mathlib.Core.List.{reverse-cons, reverse-append}
use Rattle.lists.specs.Tests.{cases, clash, or_left, or_right, or_second}
use Rattle.lists.specs.Lists.{any, All}
use Rattle.lists.specs.Each.{none_all, all_imp, all_append, any_append}
use Rattle.register.specs.Chain.{latest}
use Rattle.gate_rules.specs.Gate.{first_of}
use Rattle.gate_rules.specs.Authority.{IsIn}

module _ {C : Type 0} where
  abbrev pub place_here : (c : C) (L : List C) → IsIn (c ∷ L) c
  place_here c L = record { before = []; after = L; split = refl }

  abbrev pub place_later : (d : C) (L : List C) (c : C) → IsIn L c → IsIn (d ∷ L) c
  place_later d L c p = record { before = d ∷ p.before; after = p.after; split = ap (λ l. d ∷ l) p.split }

  -- where some element passes a test, there is a place at which one does
  pub any_place : (p : C → Bool) (L : List C) → any p L ≡ true → (c : C) × IsIn L c × (p c ≡ true)
  any_place p [] h = clash false h refl
  any_place p (c ∷ L) h =
      cases (p c) (λ e. (c, place_here c L, e))
      (λ e. let found = any_place p L (rw e at h) in (found.0, place_later c L found.0 found.1, found.2))

  pub place_any : (p : C → Bool) (L : List C) (c : C) → IsIn L c → p c ≡ true → any p L ≡ true
  place_any p L c at e =
      rw (at.split, any_append p at.before (c ∷ at.after), e) (or_second (any p at.before) true refl)

  -- what holds of each holds at a place
  pub all_place : (Q : C → Type 0) (L : List C) → All Q L → (c : C) → IsIn L c → Q c
  all_place Q L h c at = all_middle at.before (rw at.split at h)
    where
      all_middle : (K : List C) → All Q (K ++ c ∷ at.after) → Q c
      all_middle [] k = k.0
      all_middle (d ∷ K) k = all_middle K k.1

  pub none_place : (p : C → Bool) (L : List C) → any p L ≡ false → (c : C) → IsIn L c → p c ≡ false
  none_place p L h = all_place (λ c. p c ≡ false) L (none_all p L h)

  -- each element stands at a place
  pub each_place : (L : List C) → All (λ c. IsIn L c) L
  each_place [] = tt
  each_place (c ∷ L) = (place_here c L, all_imp (λ d. IsIn L d) (λ d. IsIn (c ∷ L) d) (λ d at. place_later c L d at) L (each_place L))

  -- a place is the first, or one behind it
  pub is_in_cases : (d : C) (L : List C) (c : C) → IsIn (d ∷ L) c → (c ≡ d) ⊎ IsIn L c
  is_in_cases d L c at = where_split at.before at.split
    where
      where_split : (K : List C) → d ∷ L ≡ K ++ c ∷ at.after → (c ≡ d) ⊎ IsIn L c
      where_split [] e = inl cc
      where_split (b ∷ K) e = inr record { before = K; after = at.after; split = cc }

  pub all_latest : (Q : C → Type 0) (L : List C) → All Q L → All Q (latest L)
  all_latest Q [] h = tt
  all_latest Q (c ∷ L) h = rw (reverse-cons c L) (all_append Q (latest L) (c ∷ []) (all_latest Q L h.1) (h.0, tt))

  pub latest_split : (K : List C) (c : C) (M : List C) → latest (K ++ c ∷ M) ≡ latest M ++ c ∷ latest K
  latest_split K c M = reverse-append K (c ∷ M) ∙ rw (reverse-cons c M) (append_assoc (latest M) (c ∷ []) (latest K))

  pub first_hit : (p : C → Bool) (c : C) (L : List C) → p c ≡ true → first_of p (c ∷ L) ≡ c ∷ []
  unfolding first_of
  first_hit p c L e = rw e

  pub first_miss : (p : C → Bool) (c : C) (L : List C) → p c ≡ false → first_of p (c ∷ L) ≡ first_of p L
  unfolding first_of
  first_miss p c L e = rw e

  pub first_none : (p : C → Bool) (L : List C) → any p L ≡ false → first_of p L ≡ []
  unfolding first_of
  first_none p [] h = refl
  first_none p (c ∷ L) h = rw (or_left (p c) (any p L) h) (first_none p L (or_right (p c) (any p L) h))

-- the first that passes a test: it stands, it passes, and none before it does
pub record First {C : Type 0} (p : C → Bool) (L : List C) (c : C) : Type 0 where
  pub place : IsIn L c
  pub passes : p c ≡ true
  pub none_before : any p place.before ≡ false
  pub alone : first_of p L ≡ c ∷ []

module _ {C : Type 0} where
  pub first_found : (p : C → Bool) (L : List C) → any p L ≡ true → (c : C) × First p L c
  first_found p [] h = clash false h refl
  first_found p (c ∷ L) h =
      cases (p c) (λ e. (c, record { place = place_here c L; passes = e; none_before = refl; alone = first_hit p c L e }))
      (λ e. let found = first_found p L (rw e at h) in (
        found.0,
        record {
          place = place_later c L found.0 found.1.place;
          passes = found.1.passes;
          none_before = rw e found.1.none_before;
          alone = first_miss p c L e ∙ found.1.alone;
        },
      ))
