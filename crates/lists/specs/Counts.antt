-- Laws: Numbers counted up one by one: what some or every of them passing a test says of each, and lists read at counted places. Assumes nothing.
use Rattle.std.specs.Prelude.{◌≡◌, refl, Bool, true, List, [], ◌∷◌, ◌++◌, map, ℕ, zero, suc, ◌+◌, ◌≤◌, ◌<◌, eqb, length, take, drop, get_or}
use Rattle.std.proofs.Common.{ap, ◌∙◌, le_refl, arith, eqb-true, length-take, drop-cons}
use Rattle.std.proofs.lemmas.Bool.{eqb-false}
use Rattle.lists.specs.Tests.{cases, and_left, and_right, and_both}
use Rattle.lists.specs.Lists.{any, every, All, counted}
use Rattle.lists.specs.Each.{all_imp}

pub counted_length : (i n : ℕ) → length (counted i n) ≡ n
counted_length i zero = refl
counted_length i (suc n) = ap suc (counted_length (suc i) n)

-- one number more is the last
pub counted_last : (i n : ℕ) → counted i (suc n) ≡ counted i n ++ ((i + n) ∷ [])
counted_last i zero = let first : i + 0 ≡ i = omega arith in rw first
counted_last i (suc n) = let last : suc i + n ≡ i + suc n = omega arith in ap (λ l. i ∷ l) (counted_last (suc i) n ∙ rw last)

-- what f makes of them is read at each place
pub counted_read : {A : Type 0} (f : ℕ → A) (n i j : ℕ) (d : A) → j < n → get_or (map f (counted i n)) j d ≡ f (i + j)
counted_read f zero i j d h = absurd (omega arith)
counted_read f (suc n) i zero d h = let here : i + 0 ≡ i = omega arith in rw here
counted_read f (suc n) i (suc j) d h = counted_read f n (suc i) j d (omega arith) ∙ ap f (omega arith)

-- each is below the end
pub counted_below : (i n : ℕ) → All (λ j. j < i + n) (counted i n)
counted_below i zero = tt
counted_below i (suc n) =
    (omega arith, all_imp (λ j. j < suc i + n) (λ j. j < i + suc n) (λ j h. omega arith) (counted (suc i) n) (counted_below (suc i) n))

-- as many as the first n are the first n
take_first : {A : Type 0} (n : ℕ) (l : List A) → take (length (take n l)) l ≡ take n l
take_first zero l = refl
take_first (suc n) [] = refl
take_first (suc n) (a ∷ l) = ap (λ m. a ∷ m) (take_first n l)

module _ {A : Type 0} (d : A) (l : List A) where
  -- read at the n places from i on, a list gives its n elements from i on
  pub counted_at : (n i : ℕ) → i + n ≤ length l → map (λ j. get_or l j d) (counted i n) ≡ take n (drop i l)
  counted_at zero i h = refl
  counted_at (suc n) i h =
      let inside : i < length l = omega arith in
      rw (drop-cons l i d) (ap (λ m. get_or l i d ∷ m) (counted_at n (suc i) (omega arith)))

  -- read at as many places as the first n have, it gives the first n
  pub counted_first : (n : ℕ) → map (λ j. get_or l j d) (counted 0 (length (take n l))) ≡ take n l
  counted_first n = counted_at (length (take n l)) 0 (omega (arith, length-take n l)) ∙ take_first n l

module _ (p : ℕ → Bool) where
  -- every counted number passing, each passes
  pub every_counted_sound : (n i : ℕ) → every p (counted i n) ≡ true → (b : ℕ) → i ≤ b → b < i + n → p b ≡ true
  every_counted_sound zero i t b low high = absurd (omega arith)
  every_counted_sound (suc n) i t b low high =
      cases (eqb i b) (λ e. let same : i ≡ b = eqb-true i b e in rw (← same) (and_left (p i) (every p (counted (suc i) n)) t))
      (λ e. let other : (i ≡ b → ⊥) = eqb-false i b e in
      every_counted_sound n (suc i) (and_right (p i) (every p (counted (suc i) n)) t) b (omega arith) (omega arith))

  -- each number passing, every counted one does
  pub every_counted_complete : (n i : ℕ) → ((b : ℕ) → i ≤ b → b < i + n → p b ≡ true) → every p (counted i n) ≡ true
  every_counted_complete zero i f = refl
  every_counted_complete (suc n) i f =
      and_both (p i) (every p (counted (suc i) n)) (f i (le_refl i) (omega arith))
      (every_counted_complete n (suc i) (λ b low high. f b (omega arith) (omega arith)))

  -- some counted number passing, there is one that does
  pub any_counted_sound : (n i : ℕ) → any p (counted i n) ≡ true → (b : ℕ) × (i ≤ b) × (b < i + n) × (p b ≡ true)
  any_counted_sound zero i t = let never : ◌≡◌ {A = ℕ} 0 1 = cc in absurd (omega arith)
  any_counted_sound (suc n) i t =
      cases (p i) (λ e. (i, le_refl i, omega arith, e))
      (λ e. let found = any_counted_sound n (suc i) (rw e at t) in
      (found.0, omega (arith, found.1), omega (arith, found.2), found.3))

  -- a number passing, some counted one does
  pub any_counted_complete : (n i b : ℕ) → i ≤ b → b < i + n → p b ≡ true → any p (counted i n) ≡ true
  any_counted_complete zero i b low high e = absurd (omega arith)
  any_counted_complete (suc n) i b low high e =
      cases (p i) (λ here. rw here)
      (λ past. let other : (i ≡ b → ⊥) = λ same. let never : ◌≡◌ {A = ℕ} 0 1 = cc (rw same at past) in omega arith in
      rw past (any_counted_complete n (suc i) b (omega arith) (omega arith) e))
