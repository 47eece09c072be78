-- Uses and the resources that they name, right by right. Assumes nothing.
use Rattle.std.proofs.Common.{ℕ, zero, suc, ◌+◌, ◌≤◌, ◌≡◌, refl, sym, ap, ◌∙◌, true, false, not, List, [], ◌∷◌, ◌++◌, append-nil, append_assoc, arith, eq-eqb, eqb-true, leb-true, eqb, leb, length, length-append}
use borrow.Author.Tests.{eqb-false}
use Rattle.lists.specs.Tests.{cases, and_left, and_right}
use Rattle.lists.specs.Lists.{every}
use Rattle.lists.specs.Filters.{dropping_nil, dropping_hit, dropping_miss}
use Rattle.actions.specs.declared.Usage.{Usage}
use Rattle.json_rules.specs.Actions.{resources_with, used_with}
use Rattle.json_rules.specs.Orders.{uses_with, ordered, Shuffled, none, same_first, swapped, twice}

-- no use, and one use more
with_none : (b : ℕ) → uses_with b [] ≡ []
with_none b = dropping_nil {C = Usage} (λ us u. not (eqb u.right b))

with_here : (b : ℕ) (u : Usage) (us : List Usage) → eqb u.right b ≡ true → uses_with b (u ∷ us) ≡ u ∷ uses_with b us
with_here b u us e = dropping_miss (λ us u. not (eqb u.right b)) u us (rw e)

with_other : (b : ℕ) (u : Usage) (us : List Usage) → eqb u.right b ≡ false → uses_with b (u ∷ us) ≡ uses_with b us
with_other b u us e = dropping_hit (λ us u. not (eqb u.right b)) u us (rw e)

-- the resources used with a right, each used with it, are the uses of that right
pub used_resources : (b : ℕ) (us : List Usage) → used_with b (resources_with b us) ≡ uses_with b us
unfolding resources_with
used_resources b [] = sym (with_none b)
used_resources b (u ∷ us) =
    cases (eqb u.right b)
    (λ e. let right : u.right ≡ b = eqb-true u.right b e in
    let whole : ◌≡◌ {A = Usage} (record { resource = u.resource; right = b }) u = rw (← right) in
    rw (e, with_here b u us e, used_resources b us, whole))
    (λ e. rw (e, with_other b u us e) (used_resources b us))

-- resources used with a right are named by these uses, and by those of no other right
resources_used : (b : ℕ) (ns : List ℕ) → resources_with b (used_with b ns) ≡ ns
unfolding resources_with
resources_used b [] = refl
resources_used b (n ∷ ns) = rw (eq-eqb b b refl) (ap (λ l. n ∷ l) (resources_used b ns))

resources_other : (b c : ℕ) → eqb c b ≡ false → (ns : List ℕ) → resources_with b (used_with c ns) ≡ []
unfolding resources_with
resources_other b c e [] = refl
resources_other b c e (n ∷ ns) = rw e (resources_other b c e ns)

resources_append : (b : ℕ) (us vs : List Usage) → resources_with b (us ++ vs) ≡ resources_with b us ++ resources_with b vs
unfolding resources_with
resources_append b [] vs = refl
resources_append b (u ∷ us) vs = cases (eqb u.right b) (λ e. rw (e, resources_append b us vs)) (λ e. rw e (resources_append b us vs))

module _ (xs ys zs : List ℕ) where
  abbrev laid : List Usage
  laid = used_with 0 xs ++ (used_with 1 ys ++ used_with 2 zs)

  laid_resources : (b : ℕ)
      → resources_with b laid ≡ resources_with b (used_with 0 xs) ++ (resources_with b (used_with 1 ys) ++ resources_with b (used_with 2 zs))
  laid_resources b = resources_append b (used_with 0 xs) (used_with 1 ys ++ used_with 2 zs) ∙ rw (resources_append b (used_with 1 ys) (used_with 2 zs))

  -- lists of resources laid one behind the other, each used with its right
  pub laid_read : resources_with 0 laid ≡ xs
  laid_read = laid_resources 0 ∙ rw (resources_used 0 xs, resources_other 0 1 refl ys, resources_other 0 2 refl zs) (append-nil xs)

  pub laid_write : resources_with 1 laid ≡ ys
  laid_write = laid_resources 1 ∙ rw (resources_other 1 0 refl xs, resources_used 1 ys, resources_other 1 2 refl zs) (append-nil ys)

  pub laid_execute : resources_with 2 laid ≡ zs
  laid_execute = laid_resources 2 ∙ rw (resources_other 2 0 refl xs, resources_other 2 1 refl ys, resources_used 2 zs)

-- ordered uses are the resources of each right, laid one behind the other
pub ordered_laid : (us : List Usage) → ordered us ≡ used_with 0 (resources_with 0 us) ++ (used_with 1 (resources_with 1 us) ++ used_with 2 (resources_with 2 us))
unfolding ordered
ordered_laid us = rw (used_resources 0 us, used_resources 1 us, used_resources 2 us)

-- and what is laid so is ordered already
pub laid_ordered : (xs ys zs : List ℕ) → ordered (used_with 0 xs ++ (used_with 1 ys ++ used_with 2 zs)) ≡ used_with 0 xs ++ (used_with 1 ys ++ used_with 2 zs)
laid_ordered xs ys zs =
    ordered_laid (used_with 0 xs ++ (used_with 1 ys ++ used_with 2 zs)) ∙ rw (laid_read xs ys zs, laid_write xs ys zs, laid_execute xs ys zs)

-- no use is there twice: it has one right
with_length : (us : List Usage) → length (uses_with 0 us) + (length (uses_with 1 us) + length (uses_with 2 us)) ≤ length us
with_length [] = rw (with_none 0, with_none 1, with_none 2) (omega arith)
with_length (u ∷ us) =
    let less = with_length us in
    let one : (b : ℕ) → (eqb u.right b ≡ true → length (uses_with b (u ∷ us)) ≡ suc (length (uses_with b us))) = λ b e. rw (with_here b u us e) in
    let none : (b : ℕ) → (eqb u.right b ≡ false → length (uses_with b (u ∷ us)) ≡ length (uses_with b us)) = λ b e. rw (with_other b u us e) in
    cases (eqb u.right 0)
    (λ e. let right = eqb-true u.right 0 e in
    omega (arith, one 0 e, none 1 (rw right), none 2 (rw right)))
    (λ e. cases (eqb u.right 1)
    (λ f. let right = eqb-true u.right 1 f in omega (arith, none 0 e, one 1 f, none 2 (rw right)))
    (λ f. cases (eqb u.right 2) (λ g. omega (arith, none 0 e, none 1 f, one 2 g)) (λ g. omega (arith, none 0 e, none 1 f, none 2 g))))

pub ordered_length : (us : List Usage) → length (ordered us) ≤ length us
unfolding ordered
ordered_length us = rw (length-append (uses_with 0 us) (uses_with 1 us ++ uses_with 2 us), length-append (uses_with 1 us) (uses_with 2 us)) (with_length us)

-- ordered uses name the same resources with each right
pub ordered_read : (us : List Usage) → resources_with 0 (ordered us) ≡ resources_with 0 us
ordered_read us = ap (resources_with 0) (ordered_laid us) ∙ laid_read (resources_with 0 us) (resources_with 1 us) (resources_with 2 us)

pub ordered_write : (us : List Usage) → resources_with 1 (ordered us) ≡ resources_with 1 us
ordered_write us = ap (resources_with 1) (ordered_laid us) ∙ laid_write (resources_with 0 us) (resources_with 1 us) (resources_with 2 us)

pub ordered_execute : (us : List Usage) → resources_with 2 (ordered us) ≡ resources_with 2 us
ordered_execute us = ap (resources_with 2) (ordered_laid us) ∙ laid_execute (resources_with 0 us) (resources_with 1 us) (resources_with 2 us)

-- the uses of one right stay in their order
same_with : (b : ℕ) (us vs : List Usage) → resources_with b us ≡ resources_with b vs → uses_with b us ≡ uses_with b vs
same_with b us vs e = sym (used_resources b us) ∙ ap (used_with b) e ∙ used_resources b vs

pub ordered_kept : (us : List Usage) (b : ℕ) → b ≤ 2 → uses_with b (ordered us) ≡ uses_with b us
ordered_kept us zero h = same_with 0 (ordered us) us (ordered_read us)
ordered_kept us (suc zero) h = same_with 1 (ordered us) us (ordered_write us)
ordered_kept us (suc (suc zero)) h = same_with 2 (ordered us) us (ordered_execute us)
ordered_kept us (suc (suc (suc b))) h = absurd (omega arith)

-- nothing is lost and nothing comes in
shuffled_same : {A : Type 0} (l : List A) → Shuffled l l
shuffled_same [] = none
shuffled_same (a ∷ l) = same_first (shuffled_same l)

moved : {A : Type 0} (a : A) (l m : List A) → Shuffled (a ∷ (l ++ m)) (l ++ (a ∷ m))
moved a [] m = shuffled_same (a ∷ m)
moved a (b ∷ l) m = twice swapped (same_first (moved a l m))

moved_past : {A : Type 0} (a : A) (l m n : List A) → Shuffled (a ∷ (l ++ (m ++ n))) (l ++ (m ++ (a ∷ n)))
moved_past a l m n = rw (← append_assoc l m n, ← append_assoc l m (a ∷ n)) (moved a (l ++ m) n)

low_cases : (n : ℕ) → leb n 2 ≡ true → eqb n 0 ≡ false → eqb n 1 ≡ false → n ≡ 2
low_cases n h e f =
    let low = leb-true n 2 h in
    let other : (n ≡ 0 → ⊥) = eqb-false n 0 e in
    let another : (n ≡ 1 → ⊥) = eqb-false n 1 f in
    omega arith

pub ordered_shuffled : (us : List Usage) → every (λ u. leb u.right 2) us ≡ true → Shuffled us (ordered us)
unfolding ordered
ordered_shuffled [] h = rw (with_none 0, with_none 1, with_none 2) none
ordered_shuffled (u ∷ us) h =
    let low = and_left (leb u.right 2) (every (λ u. leb u.right 2) us) h in
    let more = same_first {a = u} (ordered_shuffled us (and_right (leb u.right 2) (every (λ u. leb u.right 2) us) h)) in
    let r = uses_with 0 us in
    let w = uses_with 1 us in
    let x = uses_with 2 us in
    cases (eqb u.right 0)
    (λ e. let right = eqb-true u.right 0 e in
    rw (with_here 0 u us e, with_other 1 u us (rw right), with_other 2 u us (rw right)) more)
    (λ e. cases (eqb u.right 1)
    (λ f. let right = eqb-true u.right 1 f in
    rw (with_other 0 u us e, with_here 1 u us f, with_other 2 u us (rw right)) (twice more (moved u r (w ++ x))))
    (λ f. let right = low_cases u.right low e f in
    rw (with_other 0 u us e, with_other 1 u us f, with_here 2 u us (rw right))
    (twice more (moved_past u r w x))))
