-- Paths copied from lent bytes, one after the other over a buffer that has the bytes of all paths, and their lengths beside them. Assumes nothing.
use Rattle.std.proofs.Common.{◌≡◌, refl, sym, ap, ◌∙◌, List, [], ◌∷◌, ◌++◌, map, ℕ, ◌+◌, ◌*◌, ◌-◌, ◌≤◌, ◌<◌, min, add-one, arith, length, take, drop, get_or, set, replicate, length-take, length-drop, get_or-take, get_or-drop, take-suc}
use mathlib.Core.List.{map-append}
use lib.ListN.{length-map}
use lib.Seq.{paste, paste-zero, paste-suc, length-paste}
use Rattle.lists.specs.Lists.{All}
use Rattle.lists.specs.Each.{all_map, all_take, all_append_right}
use Rattle.lists.specs.Fills.{Filling, filling_start, filling_next}
use Rattle.register.specs.Limits.{resource_limit, path_limit}
use Rattle.register.specs.Register.{resources_of, no_resource}
use Rattle.register.specs.declared.Resource.{Resource}
use Rattle.register.specs.declared.Resources.{Resources}
use Rattle.coverage.specs.Laid.{bytes_limit, flat, laid_in, lens_of}
use Rattle.coverage.specs.LaidLaws.{Sized, laid_room, paste_laid}
use Rattle.lending.proofs.Filling.{standing_length, standing_first, standing_filled}

-- the bytes of a path that stands at a place
abbrev pub path_in : List ℕ → ℕ → List ℕ
path_in bytes from = take path_limit (drop from bytes)

-- the first i bytes of the path that stands at `from` are in the buffer from `to` on, and the rest is as it was
pub record Copied (old : List ℕ) (to : ℕ) (bytes : List ℕ) (from i : ℕ) (paths : List ℕ) : Type 0 where
  pub within : i ≤ path_limit
  pub room : to + path_limit ≤ length old
  pub long : length (path_in bytes from) ≡ path_limit
  pub copied : paths ≡ paste old to (path_in bytes from) i

module _ {old : List ℕ} {to : ℕ} {bytes : List ℕ} {from : ℕ} where
  pub copied_none : to + path_limit ≤ length old → from + path_limit ≤ length bytes → Copied old to bytes from 0 old
  copied_none room held = record {
    within = omega arith;
    room = room;
    long = omega (arith, held, length-take path_limit (drop from bytes), length-drop from bytes);
    copied = paste-zero old to (path_in bytes from);
  }

  module _ {i : ℕ} {paths : List ℕ} (c : Copied old to bytes from i paths) where
    pub copied_length : length paths ≡ length old
    copied_length = ap length c.copied ∙ length-paste old to (path_in bytes from) i (omega (arith, c.within, c.room)) (omega (arith, c.within, c.long))

    pub copied_next : i < path_limit → Copied old to bytes from (i + 1) (set paths (to + i) (get_or bytes (from + i) 0))
    copied_next here =
        let byte : get_or bytes (from + i) 0 ≡ get_or (path_in bytes from) i 0 = sym (get_or-take path_limit (drop from bytes) i 0 here ∙ get_or-drop from bytes i 0) in
        record {
          within = omega (arith, here);
          room = c.room;
          long = c.long;
          copied = rw (byte, add-one, c.copied) (paste-suc old to (path_in bytes from) i 0 (omega (arith, here, c.room)) (omega (arith, here, c.long)));
        }

    pub copied_all : path_limit ≤ i → paths ≡ paste old to (path_in bytes from) path_limit
    copied_all past = let all : i ≡ path_limit = omega (arith, past, c.within) in c.copied ∙ ap (paste old to (path_in bytes from)) all

-- the paths of the first i resources
abbrev first_paths : List Resource → ℕ → List (List ℕ)
first_paths l i = map (λ (o : Resource). o.path) (take i l)

-- of the resources, of which top stand, the paths of the first i are laid over the old buffer, and their lengths stand
pub record Laying (k : Resources) (old : List ℕ) (top i : ℕ) (paths lens : List ℕ) : Type 0 where
  pub long : length k.list ≡ resource_limit
  pub sized : All (λ o. length o.path ≡ path_limit) k.list
  pub whole : length old ≡ bytes_limit
  pub bound : top ≡ min k.count resource_limit
  pub within : i ≤ top
  pub laid : paths ≡ flat (first_paths k.list i) ++ drop (i * path_limit) old
  pub lengths : Filling resource_limit (λ j. (get_or k.list j no_resource).len) top 0 i lens

module _ {k : Resources} {old : List ℕ} {top : ℕ} where
  pub laying_none : length k.list ≡ resource_limit → All (λ o. length o.path ≡ path_limit) k.list → length old ≡ bytes_limit → top ≡ min k.count resource_limit
      → Laying k old top 0 old (replicate resource_limit 0)
  unfolding flat
  laying_none long sized whole bound = record {
    long = long;
    sized = sized;
    whole = whole;
    bound = bound;
    within = omega arith;
    laid = refl;
    lengths = filling_start (omega (arith, bound));
  }

  module _ {i : ℕ} {paths lens : List ℕ} (s : Laying k old top i paths lens) where
    number : length (first_paths k.list i) ≡ i
    number = length-map (take i k.list) (λ (o : Resource). o.path) ∙ omega (arith, length-take i k.list, s.within, s.bound, s.long)

    first_sized : Sized (first_paths k.list i)
    first_sized =
        all_map (λ (o : Resource). o.path) (λ p. length p ≡ path_limit) (take i k.list) (all_take (λ (o : Resource). length o.path ≡ path_limit) i k.list s.sized)

    module _ (here : i < top) {p : List ℕ} (path : p ≡ (get_or k.list i no_resource).path) where
      further : take (i + 1) k.list ≡ take i k.list ++ (get_or k.list i no_resource ∷ [])
      further = rw add-one (take-suc k.list i no_resource (omega (arith, here, s.bound, s.long)))

      path_sized : length p ≡ path_limit
      path_sized =
          let both : All (λ (o : Resource). length o.path ≡ path_limit) (take i k.list ++ (get_or k.list i no_resource ∷ [])) =
          rw further at (all_take (λ (o : Resource). length o.path ≡ path_limit) (i + 1) k.list s.sized) in
          ap length path ∙ (all_append_right (λ (o : Resource). length o.path ≡ path_limit) (take i k.list) (get_or k.list i no_resource ∷ []) both).0

      -- one path more, pasted at its place
      pub laying_next : {after : List ℕ} → after ≡ paste paths (i * path_limit) p path_limit → {x : ℕ} → x ≡ (get_or k.list i no_resource).len
          → Laying k old top (i + 1) after (set lens i x)
      laying_next pasted {x} len =
          let more : first_paths k.list (i + 1) ≡ first_paths k.list i ++ (p ∷ []) =
          ap (map (λ (o : Resource). o.path)) further ∙ map-append (λ (o : Resource). o.path) (take i k.list) (get_or k.list i no_resource ∷ [])
          ∙ ap (λ q. first_paths k.list i ++ (q ∷ [])) (sym path) in
          record {
            long = s.long;
            sized = s.sized;
            whole = s.whole;
            bound = s.bound;
            within = omega (arith, here);
            laid =
                pasted
                ∙ ap (λ b. paste b (i * path_limit) p path_limit) s.laid
                ∙ paste_laid old (first_paths k.list i) first_sized p path_sized i (sym number)
                ∙ ap (λ ps. flat ps ++ drop ((i + 1) * path_limit) old) (sym more);
            lengths = filling_next s.lengths x here len;
          }

    -- after the last resource that stands all of them are laid
    pub laying_all : top ≤ i → (paths ≡ laid_in old k) × (lens ≡ lens_of k)
    unfolding lens_of
    laying_all past =
        let all : i ≡ top = omega (arith, past, s.within) in
        let ps = map (λ (o : Resource). o.path) (resources_of k) in
        let many : top ≡ length (resources_of k) = standing_length k.list resource_limit k.count s.long s.bound in
        let laid_many : i ≡ length ps = all ∙ many ∙ sym (length-map (resources_of k) (λ (o : Resource). o.path)) in (
          s.laid
              ∙ ap (λ n. flat (first_paths k.list n) ++ drop (i * path_limit) old) all
              ∙ ap (λ os. flat (map (λ (o : Resource). o.path) os) ++ drop (i * path_limit) old) (standing_first k.list resource_limit k.count s.long s.bound)
              ∙ ap (λ n. flat ps ++ drop (n * path_limit) old) laid_many
              ∙ sym (laid_room old ps s.whole),
          standing_filled (λ (o : Resource). o.len) no_resource k.list resource_limit k.count s.long s.bound s.lengths past
              ∙ ap (λ n. map (λ (o : Resource). o.len) (resources_of k) ++ replicate (resource_limit - n) 0) many,
        )
