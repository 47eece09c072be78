-- Places in lists that are joined, mapped, filtered and counted, and lists in which each element has
-- something to do with all that follow it. Assumes nothing.
use Rattle.std.proofs.Common.{◌≡◌, ap, ◌∙◌, Bool, true, List, [], ◌∷◌, ◌++◌, map, append_assoc, ℕ, zero, suc, ◌+◌, ◌≤◌, ◌<◌, arith, eqb, eqb-true}
use mathlib.Core.List.{map-append}
use borrow.Author.Tests.{eqb-false}
use Rattle.lists.specs.Tests.{cases}
use Rattle.lists.specs.Lists.{Each, All, counted, filter}
use Rattle.lists.specs.Each.{all_append, all_imp}
use Rattle.lists.specs.Filters.{filter_nil, filter_hit, filter_miss, filter_append, all_dropping}
use Rattle.gate_rules.specs.Authority.{IsIn}
use Rattle.gate_rules.specs.Places.{place_here, place_later}

module _ {C : Type 0} where
  pub place_left : (L M : List C) (c : C) → IsIn L c → IsIn (L ++ M) c
  place_left L M c at = record {
    before = at.before;
    after = at.after ++ M;
    split = ap (λ l. l ++ M) at.split ∙ append_assoc at.before (c ∷ at.after) M;
  }

  pub place_right : (L M : List C) (c : C) → IsIn M c → IsIn (L ++ M) c
  place_right [] M c at = at
  place_right (d ∷ L) M c at = place_later d (L ++ M) c (place_right L M c at)

  pub place_filter : (p : C → Bool) (L : List C) (c : C) → IsIn L c → p c ≡ true → IsIn (filter p L) c
  place_filter p L c at e = record {
    before = filter p at.before;
    after = filter p at.after;
    split = ap (filter p) at.split ∙ filter_append p at.before (c ∷ at.after) ∙ ap (λ l. filter p at.before ++ l) (filter_hit p c at.after e);
  }

  -- joined lists, of which each element of the first has F with each of the second
  pub each_joined : (F : C → C → Type 0) (L M : List C) → Each (λ later c. All (F c) later) L → Each (λ later c. All (F c) later) M
      → All (λ c. All (F c) M) L → Each (λ later c. All (F c) later) (L ++ M)
  each_joined F [] M h k j = k
  each_joined F (c ∷ L) M h k j = (all_append (F c) L M h.0 j.0, each_joined F L M h.1 k j.1)

  pub each_filter : (F : C → C → Type 0) (p : C → Bool) (L : List C) → Each (λ later c. All (F c) later) L → Each (λ later c. All (F c) later) (filter p L)
  each_filter F p [] h = rw (filter_nil p) tt
  each_filter F p (c ∷ L) h =
      cases (p c) (λ e. rw (filter_hit p c L e) (all_dropping _ (F c) L h.0, each_filter F p L h.1))
      (λ e. rw (filter_miss p c L e) (each_filter F p L h.1))

module _ {E C : Type 0} (f : E → C) where
  pub place_map : (L : List E) (e : E) → IsIn L e → IsIn (map f L) (f e)
  place_map L e at = record {
    before = map f at.before;
    after = map f at.after;
    split = ap (map f) at.split ∙ map-append f at.before (e ∷ at.after);
  }

  pub each_mapped : (F : E → E → Type 0) (G : C → C → Type 0) → ((d e : E) → F d e → G (f d) (f e)) → (L : List E)
      → Each (λ later e. All (F e) later) L → Each (λ later c. All (G c) later) (map f L)
  each_mapped F G g [] h = tt
  each_mapped F G g (e ∷ L) h = (mapped L h.0, each_mapped F G g L h.1)
    where
      mapped : (M : List E) → All (F e) M → All (G (f e)) (map f M)
      mapped [] k = tt
      mapped (d ∷ M) k = (g e d k.0, mapped M k.1)

-- numbers counted from i on
pub counted_from : (n i j : ℕ) → i ≤ j → All (λ k. i ≤ k) (counted j n)
counted_from zero i j h = tt
counted_from (suc n) i j h = (h, counted_from n i (suc j) (omega arith))

pub counted_ascends : (n i : ℕ) → Each (λ later j. All (λ k. j < k) later) (counted i n)
counted_ascends zero i = tt
counted_ascends (suc n) i = (all_imp (λ k. suc i ≤ k) (λ k. i < k) (λ k h. omega arith) (counted (suc i) n) (counted_from n (suc i) (suc i) (omega arith)), counted_ascends n (suc i))

pub place_counted : (n i j : ℕ) → i ≤ j → j < i + n → IsIn (counted i n) j
place_counted zero i j low high = absurd (omega arith)
place_counted (suc n) i j low high =
    cases (eqb i j)
    (λ e. rw (eqb-true i j e) (place_here j (counted (suc j) n)))
    (λ e. let other = eqb-false i j e in place_later i (counted (suc i) n) j (place_counted n (suc i) j (omega arith) (omega arith)))
