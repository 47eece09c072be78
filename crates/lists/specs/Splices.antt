-- Laws: A list with another written over it from a place on: how long it is, and how two such writings join, for any element. Assumes nothing.
use Rattle.std.specs.Prelude.{ℕ, ◌+◌, ◌-◌, ◌≤◌, ◌<◌, ◌≡◌, refl, set, List, [], ◌∷◌, ◌++◌}
use Rattle.std.proofs.Common.{◌∙◌, add-zero, add_assoc, add-one, length-drop, take-append-drop, take_at, drop_at, append_assoc, arith}
use Rattle.std.proofs.Math.Path.{sym, ap}
use Rattle.std.proofs.Math.ListN.{length, take, drop, length-append, length-take}
use Rattle.std.proofs.lemmas.List.{set_split, take-append-le, drop-append-le}
use Rattle.std.proofs.Math.Seq.{drop-append-add, drop-drop}
use Rattle.lists.specs.Lists.{splice}

module _ {A : Type 0} where
  pub splice_nil : (at : ℕ) (old : List A) → splice at [] old ≡ old
  unfolding splice
  splice_nil at old = rw (add-zero, take-append-drop)

  pub splice_set : (at : ℕ) (b : A) (old : List A) → at < length old → set old at b ≡ splice at (b ∷ []) old
  unfolding splice
  splice_set at b old h = rw (add-one, set_split)

  pub length_splice : (at : ℕ) (t old : List A) → at + length t ≤ length old → length (splice at t old) ≡ length old
  unfolding splice
  length_splice at t old h = simp (length-append, length-take, length-drop) (omega arith)

  -- what is written next goes behind what was written
  pub splice_splice : (at : ℕ) (t u old : List A) → at + length t ≤ length old →
      splice (at + length t) u (splice at t old) ≡ splice at (t ++ u) old
  unfolding splice
  splice_splice at t u old h =
      let len : length (take at old ++ t) ≡ at + length t = simp (length-append, length-take) (omega arith) in
      let whole : take at old ++ (t ++ drop (at + length t) old) ≡ (take at old ++ t) ++ drop (at + length t) old = rw append_assoc in
      let front : take (at + length t) (take at old ++ (t ++ drop (at + length t) old)) ≡ take at old ++ t =
      rw whole (take_at (take at old ++ t) (drop (at + length t) old) (at + length t) len) in
      let back : drop (at + length t + length u) (take at old ++ (t ++ drop (at + length t) old)) ≡ drop (at + length (t ++ u)) old =
      rw (whole, ← len, drop-append-add, len, drop-drop, length-append, add_assoc) in
      rw (front, back) (simp append_assoc)

  -- one byte more, behind what was written
  pub splice_snoc : (at : ℕ) (t : List A) (b : A) (old l : List A) (r : ℕ) → at + length t < length old →
      r ≡ at + length t → l ≡ splice at t old → set l r b ≡ splice at (t ++ (b ∷ [])) old
  splice_snoc at t b old l r h e k =
      rw (k, e) (splice_set (at + length t) b (splice at t old) (omega (arith, length_splice at t old (omega arith))) ∙ splice_splice at t (b ∷ []) old (omega arith))

  -- what a second writing behind the first leaves, from what each says
  pub splice_then : (at : ℕ) (t u old l m : List A) (k : ℕ) → at + length t ≤ length old →
      k ≡ at + length t → l ≡ splice at t old → m ≡ splice k u l → m ≡ splice at (t ++ u) old
  splice_then at t u old l m k h e f g = g ∙ rw (f, e) (splice_splice at t u old h)

-- what was written, read at its own places and at those before and behind it
module _ {A : Type 0} (base : ℕ) (ns old : List A) (room : base + length ns ≤ length old) where
  pub splice_part : take (length ns) (drop base (splice base ns old)) ≡ ns
  unfolding splice
  splice_part =
      let front : length (take base old) ≡ base = simp length-take (omega arith) in
      rw (drop_at (take base old) (ns ++ drop (base + length ns) old) base front) (take_at ns (drop (base + length ns) old) (length ns) refl)

  pub splice_behind : (at : ℕ) → base + length ns ≤ at → drop at (splice base ns old) ≡ drop at old
  unfolding splice
  splice_behind at h =
      let front : length (take base old ++ ns) ≡ base + length ns = simp (length-append, length-take) (omega arith) in
      let whole : take base old ++ (ns ++ drop (base + length ns) old) ≡ (take base old ++ ns) ++ drop (base + length ns) old = rw append_assoc in
      let place : at ≡ length (take base old ++ ns) + (at - (base + length ns)) = omega arith in
      let back : base + length ns + (at - (base + length ns)) ≡ at = omega arith in
      ap (λ l. drop at l) whole
      ∙ ap (λ k. drop k ((take base old ++ ns) ++ drop (base + length ns) old)) place
      ∙ drop-append-add (take base old ++ ns) (drop (base + length ns) old) (at - (base + length ns))
      ∙ drop-drop (at - (base + length ns)) (base + length ns) old
      ∙ ap (λ k. drop k old) back

  pub splice_before : (at n : ℕ) → at + n ≤ base → take n (drop at (splice base ns old)) ≡ take n (drop at old)
  unfolding splice
  splice_before at n h =
      front_part (ns ++ drop (base + length ns) old)
      ∙ sym (front_part (drop base old))
      ∙ ap (λ l. take n (drop at l)) (take-append-drop base old)
    where
      front_part : (ys : List A) → take n (drop at (take base old ++ ys)) ≡ take n (drop at (take base old))
      front_part ys =
          let inside : at ≤ length (take base old) = simp length-take (omega arith) in
          let within : n ≤ length (drop at (take base old)) = simp (length-drop, length-take) (omega arith) in
          rw (drop-append-le at (take base old) ys inside) (take-append-le n (drop at (take base old)) ys within)
