-- A loop that fills an array from the front with f of each of the first k elements of a list. Assumes nothing.
use Rattle.std.proofs.Common.{◌≡◌, sym, ap, ◌∙◌, List, ◌++◌, map, ℕ, suc, ◌+◌, ◌-◌, ◌≤◌, ◌<◌, min, add-one, arith, length, take, get_or, set, replicate, length-take, take-suc, take_all, get_or-take}
use mathlib.Core.List.{map-append}
use native.Mathlib.Nat.{sub-zero}
use lib.ListN.{length-map}
use lib.Seq.{set_at, append_snoc}
use Rattle.answers.specs.Answers.{filled}

-- the loop has come to place i, of top: f of what stands before it is in its places, and every place past it is free
pub record Filling {A B : Type 0} (f : A → B) (none : B) (most k : ℕ) (l : List A) (top : ℕ) (out : List B) (i : ℕ) : Type 0 where
  pub within : i ≤ top
  pub whole : top ≡ length (take k l)
  pub few : top ≤ most
  pub put : out ≡ map f (take i (take k l)) ++ replicate (most - i) none

module _ {A B : Type 0} (f : A → B) (none : B) where
  -- an element put where the free places begin
  put_first : (l : List A) (i n : ℕ) (d : A) → i < length l
      → set (map f (take i l) ++ replicate (suc n) none) i (f (get_or l i d)) ≡ map f (take (suc i) l) ++ replicate n none
  put_first l i n d h =
      let long : length (map f (take i l)) ≡ i = omega (arith, length-map (take i l) f, length-take i l) in
      rw (set_at (map f (take i l)) none (replicate n none) (f (get_or l i d)) i long, take-suc l i d h, map-append)
      (sym (append_snoc (map f (take i l)) (f (get_or l i d)) (replicate n none)))

module _ {A B : Type 0} {f : A → B} {none : B} {most k : ℕ} {l : List A} {top : ℕ} where
  pub filling_start : {out : List B} → length l ≡ most → top ≡ min k most → out ≡ replicate most none → Filling f none most k l top out 0
  filling_start h e q = record { within = omega arith; whole = omega (arith, length-take k l); few = omega arith; put = rw (sub-zero most) q }

  module _ {out : List B} {i : ℕ} (s : Filling f none most k l top out i) where
    pub filling_next : (d : A) → i < top → {b : B} → b ≡ f (get_or l i d) → Filling f none most k l top (set out i b) (i + 1)
    filling_next d h e =
        let below : i < length (take k l) = omega arith in
        let short : i < k = omega (arith, length-take k l) in
        let more : most - i ≡ suc (most - suc i) = omega arith in
        record {
          within = omega arith;
          whole = s.whole;
          few = s.few;
          put = rw (s.put, more, e, add-one, sym (get_or-take k l i d short)) (put_first f none (take k l) i (most - suc i) d below);
        }

    pub filling_done : top ≤ i → out ≡ filled f none most k l
    filling_done h =
        let all : take i (take k l) ≡ take k l = take_all i (take k l) (omega arith) in
        let place : i ≡ length (take k l) = omega arith in
        s.put ∙ ap (λ m. map f m ++ replicate (most - i) none) all ∙ ap (λ n. map f (take k l) ++ replicate (most - n) none) place
