-- A loop that lays paths of 64 bytes one after the other over a buffer, and their lengths beside them. Assumes nothing.
use Rattle.std.proofs.Common.{◌≡◌, refl, sym, ap, ◌∙◌, cond, List, [], ◌∷◌, ◌++◌, map, ℕ, ◌+◌, ◌*◌, ◌-◌, ◌≤◌, ◌<◌, min, add-one, arith, eqb-true, ne_eqb, eqb, length, take, drop, get_or, set, replicate, length-append, length-take, length-drop, take-suc, take-take, take_all}
use mathlib.Core.List.{map-append}
use borrow.Author.Tests.{eqb-false}
use lib.ListN.{length-map}
use lib.Seq.{paste}
use Rattle.lists.specs.Tests.{cases}
use Rattle.lists.specs.Lists.{All}
use Rattle.lists.specs.Each.{all_map, all_take}
use Rattle.lists.specs.Fills.{put_first}
use Rattle.register.specs.Limits.{resource_limit, path_limit}
use Rattle.register.specs.Register.{resources_of}
use Rattle.register.specs.declared.Resource.{Resource}
use Rattle.register.specs.declared.Resources.{Resources}
use Rattle.coverage.specs.Laid.{bytes_limit, flat, laid_over, laid_in, lens_of}
use Rattle.coverage.specs.LaidLaws.{Sized, flat_length, laid_room, paste_laid}

-- over a buffer of another length nothing is laid
laid_other : (old : List ℕ) (ps : List (List ℕ)) → (length old ≡ bytes_limit → ⊥) → laid_over old ps ≡ old
unfolding laid_over
laid_other old ps other = rw (ne_eqb (length old) bytes_limit other)

-- no path at all changes nothing
laid_none : (old : List ℕ) → laid_over old [] ≡ old
unfolding laid_over flat
laid_none old = cases (eqb (length old) bytes_limit) (λ e. rw e) (λ e. rw e)

-- the buffer keeps its length
laid_length : (old : List ℕ) (ps : List (List ℕ)) → Sized ps → length ps ≤ resource_limit → length (laid_over old ps) ≡ length old
laid_length old ps h few =
    cases (eqb (length old) bytes_limit)
    (λ e. let long : length old ≡ bytes_limit = eqb-true (length old) bytes_limit e in
    ap length (laid_room old ps long)
    ∙ omega (arith, length-append (flat ps) (drop (length ps * path_limit) old), flat_length ps h, length-drop (length ps * path_limit) old))
    (λ e. ap length (laid_other old ps (eqb-false (length old) bytes_limit e)))

-- one path more, pasted behind the others over a buffer of any length
paste_over : (old : List ℕ) (ps : List (List ℕ)) → Sized ps → (p : List ℕ) → length p ≡ path_limit → (n : ℕ) → n ≡ length ps
    → (bytes : List ℕ) → bytes ≡ laid_over old ps → length bytes ≡ length old
    → cond (eqb (length bytes) bytes_limit) (paste bytes (n * path_limit) p path_limit) bytes ≡ laid_over old (ps ++ (p ∷ []))
paste_over old ps h p sized n number bytes laid_so kept =
    cases (eqb (length old) bytes_limit)
    (λ e. let long : length old ≡ bytes_limit = eqb-true (length old) bytes_limit e in
    let more : length (ps ++ (p ∷ [])) ≡ n + 1 = omega (arith, length-append ps (p ∷ [])) in
    rw (kept, e)
    (ap (λ b. paste b (n * path_limit) p path_limit) (laid_so ∙ laid_room old ps long ∙ ap (λ m. flat ps ++ drop (m * path_limit) old) (sym number))
    ∙ paste_laid old ps h p sized n number
    ∙ sym (laid_room old (ps ++ (p ∷ [])) long ∙ ap (λ m. flat (ps ++ (p ∷ [])) ++ drop (m * path_limit) old) more)))
    (λ e. let other : length old ≡ bytes_limit → ⊥ = eqb-false (length old) bytes_limit e in
    rw (kept, e) (laid_so ∙ laid_other old ps other ∙ sym (laid_other old (ps ++ (p ∷ [])) other)))

-- of the resources, of which there are top, the first i are laid over the old buffer, and their lengths stand
pub record Laying (k : Resources) (old : List ℕ) (top : ℕ) (bytes lens : List ℕ) (i : ℕ) : Type 0 where
  pub within : i ≤ top
  pub whole : top ≡ length (resources_of k)
  pub few : top ≤ resource_limit
  pub sized : All (λ o. length o.path ≡ path_limit) k.list
  pub paths : bytes ≡ laid_over old (map (λ o. o.path) (take i k.list))
  pub lengths : lens ≡ map (λ o. o.len) (take i k.list) ++ replicate (resource_limit - i) 0

module _ {k : Resources} {old : List ℕ} {top : ℕ} where
  pub laying_start : length k.list ≡ resource_limit → top ≡ min k.count resource_limit → All (λ o. length o.path ≡ path_limit) k.list
      → Laying k old top old (replicate resource_limit 0) 0
  laying_start long least sized =
      record {
        within = omega arith;
        whole = omega (arith, length-take k.count k.list);
        few = omega arith;
        sized = sized;
        paths = sym (laid_none old);
        lengths = refl;
      }

  module _ {bytes lens : List ℕ} {i : ℕ} (s : Laying k old top bytes lens i) where
    abbrev passed : List Resource
    passed = take i k.list

    number : length passed ≡ i
    number = omega (arith, length-take i k.list, length-take k.count k.list, s.whole, s.within)

    counted : (A : Type 0) (f : Resource → A) → length (map f passed) ≡ i
    counted A f = length-map passed f ∙ number

    laid_sized : Sized (map (λ o. o.path) passed)
    laid_sized = all_map (λ (o : Resource). o.path) (λ p. length p ≡ path_limit) passed (all_take (λ (o : Resource). length o.path ≡ path_limit) i k.list s.sized)

    pub laying_length : length bytes ≡ length old
    laying_length =
        ap length s.paths
        ∙ laid_length old (map (λ o. o.path) passed) laid_sized (omega (arith, counted (List ℕ) (λ o. o.path), s.within, s.few))

    -- one path more, pasted at its place
    module _ (d : Resource) (here : i < top) (long : length (get_or k.list i d).path ≡ path_limit) {after : List ℕ}
        (pasted : after ≡ cond (eqb (length bytes) bytes_limit) (paste bytes (i * path_limit) (get_or k.list i d).path path_limit) bytes) where
      further : take (i + 1) k.list ≡ passed ++ (get_or k.list i d ∷ [])
      further =
          let inside : i < length k.list = omega (arith, here, s.whole, length-take k.count k.list) in
          rw add-one (take-suc k.list i d inside)

      path_laid : after ≡ laid_over old (map (λ o. o.path) (take (i + 1) k.list))
      path_laid =
          let paths : List (List ℕ) = map (λ (o : Resource). o.path) passed in
          let p : List ℕ = (get_or k.list i d).path in
          let more : map (λ (o : Resource). o.path) (take (i + 1) k.list) ≡ paths ++ (p ∷ []) =
          ap (map (λ (o : Resource). o.path)) further ∙ map-append (λ (o : Resource). o.path) passed (get_or k.list i d ∷ []) in
          pasted ∙ paste_over old paths laid_sized p long i (sym (counted (List ℕ) (λ o. o.path))) bytes s.paths laying_length ∙ ap (laid_over old) (sym more)

      pub laying_next : Laying k old top after (set lens i (get_or k.list i d).len) (i + 1)
      laying_next =
          record {
            within = omega arith;
            whole = s.whole;
            few = s.few;
            sized = s.sized;
            paths = path_laid;
            lengths =
                ap (λ l. set l i (get_or k.list i d).len) s.lengths
                ∙ put_first (map (λ (o : Resource). o.len) passed) resource_limit i 0 (get_or k.list i d).len (counted ℕ (λ o. o.len)) (omega (arith, s.few))
                ∙ ap (λ l. l ++ replicate (resource_limit - (i + 1)) 0)
                (sym (ap (map (λ (o : Resource). o.len)) further ∙ map-append (λ (o : Resource). o.len) passed (get_or k.list i d ∷ [])));
          }

    -- after the last resource all of them are laid
    all_passed : top ≤ i → passed ≡ resources_of k
    all_passed h =
        let all : i ≡ length (resources_of k) = omega (arith, s.within, s.whole) in
        let short : i ≤ k.count = omega (arith, length-take k.count k.list) in
        sym (take-take i k.count k.list short) ∙ take_all i (resources_of k) (omega arith)

    pub laying_done : top ≤ i → (bytes ≡ laid_in old k) × (lens ≡ lens_of k) × All (λ o. length o.path ≡ path_limit) k.list
    unfolding lens_of
    laying_done h = (
      s.paths ∙ ap (λ l. laid_over old (map (λ o. o.path) l)) (all_passed h),
      s.lengths ∙ ap (λ n. map (λ o. o.len) passed ++ replicate (resource_limit - n) 0) (sym number)
          ∙ ap (λ l. map (λ o. o.len) l ++ replicate (resource_limit - length l) 0) (all_passed h),
      s.sized,
    )
