-- Laws: Loops from the front over the first `k` of an array's list, for any element. Assumes nothing.
use Rattle.std.specs.Prelude.{◌≡◌, List, [], ◌∷◌, map, ℕ, ◌+◌, ◌≤◌, ◌<◌, min, length, take, drop, get_or}
use Rattle.std.proofs.Common.{sym, ◌∙◌, add-one, arith, drop_of_length-le, length-take, drop-cons, get_or-take}
use Rattle.std.proofs.lemmas.List.{length-map}

-- what owning a struct tells of a field that is an array of structs is the length of a mapped list
pub length_mapped : (X Y : Type 0) (f : X → Y) (l : List X) (n : ℕ) → length (map f l) ≡ n → length l ≡ n
length_mapped X Y f l n p = sym (length-map l f) ∙ p

-- place i, and what is left behind it
pub drop_next : {A : Type 0} (l : List A) (i : ℕ) (d : A) → i < length l → drop i l ≡ get_or l i d ∷ drop (i + 1) l
drop_next l i d h = rw (add-one, drop-cons l i d)

-- place i of the first k, read off the array's list
pub drop_at : {A : Type 0} (k : ℕ) (l : List A) (i : ℕ) (d : A) → i < length (take k l) → drop i (take k l) ≡ get_or l i d ∷ drop (i + 1) (take k l)
drop_at k l i d h =
    let below : i < k = omega (arith, length-take k l) in
    rw (drop-cons (take k l) i d, get_or-take k l i d, add-one)

-- a loop over the first k of l, of which there are n, has come to place i: what it is to answer, e, is g of i and of what is left
pub record Loop {A B : Type 0} (g : ℕ → List A → B) (k : ℕ) (l : List A) (n i : ℕ) (e : B) : Type 0 where
  pub within : i ≤ n
  pub long : n ≡ length (take k l)
  pub ahead : e ≡ g i (drop i (take k l))

module _ {A B : Type 0} {g : ℕ → List A → B} {k : ℕ} {l : List A} {n : ℕ} where
  pub start : {e : B} → n ≡ min k (length l) → e ≡ g 0 (take k l) → Loop g k l n 0 e
  start h q = record { within = omega arith; long = h ∙ sym (length-take k l); ahead = q }

  module _ {i : ℕ} {e : B} (s : Loop g k l n i e) where
    -- in a turn: e is g of the element read and the rest
    pub turn : (d : A) → i < n → e ≡ g i (get_or l i d ∷ drop (i + 1) (take k l))
    turn d h = let below : i < length (take k l) = omega arith in s.ahead ∙ rw (drop_at k l i d)

    -- to the next place, for a g' that knows the element passed
    pub next : {g' : ℕ → List A → B} → i < n → e ≡ g' (i + 1) (drop (i + 1) (take k l)) → Loop g' k l n (i + 1) e
    next h q = record { within = omega arith; long = s.long; ahead = q }

    -- after the loop nothing is left
    pub done : n ≤ i → e ≡ g i []
    done h = let past : length (take k l) ≤ i = omega arith in s.ahead ∙ rw (drop_of_length-le (take k l) past)

-- the same loop where it goes over the part of l that ends at `top`
module _ {A B : Type 0} {g : ℕ → List A → B} {k : ℕ} {l : List A} (top : ℕ) where
  pub turn_part : {i : ℕ} {e : B} → Loop g k l (length (take top l)) i e → (d : A) → i < length (take top l)
      → e ≡ g i (get_or (take top l) i d ∷ drop (i + 1) (take k l))
  turn_part {i} s d h = let below : i < top = omega (arith, length-take top l) in rw (get_or-take top l i d) (turn s d h)
