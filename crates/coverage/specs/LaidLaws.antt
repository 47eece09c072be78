-- Laws: What the laid paths of resources say of the resources: the part at a place is the path of the resource there. Assumes nothing.
use Rattle.std.specs.Prelude.{◌≡◌, refl, List, [], ◌∷◌, ◌++◌, map, ℕ, zero, suc, ◌+◌, ◌*◌, ◌-◌, ◌/◌, ◌≤◌, ◌<◌, ltb, length, take, drop, get_or, replicate}
use Rattle.std.proofs.Common.{sym, ap, ◌∙◌, append_assoc, append-nil, arith, lt-ltb, le-ltb, ltb-true, ltb-false, eq-eqb, length-append, length-take, take_all, take_at, drop-drop, get_or-append-add}
use Rattle.std.proofs.lemmas.List.{length-map, length-replicate, get_or-replicate}
use Rattle.std.proofs.Math.ListN.{get_or-map, get_or-append, get_or-eq_default}
use Rattle.std.proofs.Math.Seq.{paste, drop-append-add}
use Rattle.lists.specs.Tests.{cases}
use Rattle.lists.specs.Each.{all_map, all_take}
use Rattle.lists.specs.Lists.{All}
use Rattle.register.specs.Limits.{resource_limit, path_limit}
use Rattle.register.specs.Register.{resources_of, path_of, no_resource}
use Rattle.register.specs.declared.Resource.{Resource}
use Rattle.register.specs.declared.Resources.{Resources}
use Rattle.coverage.specs.Laid.{bytes_limit, flat, laid_over, laid_in, lens_of, laid, part_at}

-- every path has the bytes of a place
abbrev pub Sized : List (List ℕ) → Type 0
Sized ps = All (λ p. length p ≡ path_limit) ps

pub flat_length : (ps : List (List ℕ)) → Sized ps → length (flat ps) ≡ length ps * path_limit
unfolding flat
flat_length [] h = refl
flat_length (p ∷ ps) h = omega (arith, length-append p (flat ps), h.0, flat_length ps h.1)

-- the bytes of a place are the path laid there, whatever is behind the paths
flat_at : (ps : List (List ℕ)) → Sized ps → (rest : List ℕ) (j : ℕ) (d : List ℕ) → j < length ps
    → take path_limit (drop (j * path_limit) (flat ps ++ rest)) ≡ get_or ps j d
unfolding flat
flat_at [] h rest j d inside = absurd (omega arith)
flat_at (p ∷ ps) h rest zero d inside = rw (append_assoc p (flat ps) rest) (take_at p (flat ps ++ rest) path_limit h.0)
flat_at (p ∷ ps) h rest (suc j) d inside =
    let past : suc j * path_limit ≡ length p + j * path_limit = omega (arith, h.0) in
    rw (append_assoc p (flat ps) rest, past, drop-append-add p (flat ps ++ rest) (j * path_limit)) (flat_at ps h.1 rest j d (omega arith))

-- past the bytes there is nothing
pub part_past : (bytes lens : List ℕ) (x : ℕ) → length bytes / path_limit ≤ x → part_at bytes lens x ≡ []
unfolding part_at
part_past bytes lens x past = rw (le-ltb x (length bytes / path_limit) past)

-- within them there is as much of the place's bytes as the length says
part_inside : (bytes lens : List ℕ) (x : ℕ) → x < length bytes / path_limit
    → part_at bytes lens x ≡ take (get_or lens x 0) (take path_limit (drop (x * path_limit) bytes))
unfolding part_at
part_inside bytes lens x inside = rw (lt-ltb x (length bytes / path_limit) inside)

-- a part of length 0 is empty
part_unlong : (bytes lens : List ℕ) (x : ℕ) → get_or lens x 0 ≡ 0 → part_at bytes lens x ≡ []
unfolding part_at
part_unlong bytes lens x none = cases (ltb x (length bytes / path_limit)) (λ e. rw (e, none)) (λ e. rw e)

-- a part is no longer than its length says, nor than a place has bytes
pub part_length : (bytes lens : List ℕ) (x : ℕ) → (length (part_at bytes lens x) ≤ get_or lens x 0) × (length (part_at bytes lens x) ≤ path_limit)
part_length bytes lens x =
    let place = take path_limit (drop (x * path_limit) bytes) in
    let short = length-take (get_or lens x 0) place in
    let limited = length-take path_limit (drop (x * path_limit) bytes) in
    cases (ltb x (length bytes / path_limit))
    (λ e. let part = ap length (part_inside bytes lens x (ltb-true x (length bytes / path_limit) e)) in
    (omega (arith, part, short), omega (arith, part, short, limited)))
    (λ e. let part = ap length (part_past bytes lens x (ltb-false x (length bytes / path_limit) e)) in (omega (arith, part), omega (arith, part)))

-- paths laid over a buffer of the right length
pub laid_room : (old : List ℕ) (ps : List (List ℕ)) → length old ≡ bytes_limit → laid_over old ps ≡ flat ps ++ drop (length ps * path_limit) old
unfolding laid_over
laid_room old ps long = rw (eq-eqb (length old) bytes_limit long)

-- of zeros each is 0, and past them too
pub zero_at : (n i : ℕ) → ◌≡◌ {A = ℕ} (get_or (replicate n 0) i 0) 0
zero_at n i =
    cases (ltb i n) (λ e. get_or-replicate n i 0 0 (ltb-true i n e))
    (λ e. get_or-eq_default (replicate n 0) 0 (omega (arith, length-replicate {A = ℕ} n 0, ltb-false i n e)))

-- a place's length: that of its resource, 0 behind the resources
lens_inside : (k : Resources) (j : ℕ) → j < length (resources_of k) → get_or (lens_of k) j 0 ≡ (get_or (resources_of k) j no_resource).len
unfolding lens_of
lens_inside k j inside =
    get_or-append (map (λ (o : Resource). o.len) (resources_of k)) (replicate (resource_limit - length (resources_of k)) 0) 0 j
    (rw (length-map (resources_of k) (λ (o : Resource). o.len)) inside)
    ∙ get_or-map (λ (o : Resource). o.len) (resources_of k) j no_resource

lens_past : (k : Resources) (j : ℕ) → length (resources_of k) ≤ j → get_or (lens_of k) j 0 ≡ 0
unfolding lens_of
lens_past k j past =
    let lens : List ℕ = map (λ (o : Resource). o.len) (resources_of k) in
    let behind : j ≡ length lens + (j - length lens) = omega (arith, length-map (resources_of k) (λ (o : Resource). o.len)) in
    let zeros : ℕ = resource_limit - length (resources_of k) in
    ap (λ n. get_or (lens ++ replicate zeros 0) n 0) behind ∙ get_or-append-add lens (replicate zeros 0) (j - length lens) 0
    ∙ zero_at zeros (j - length lens)

-- the part at a place of the laid paths is the path of the resource at that place; past the resources it is empty, as the path of none is
pub part_natural : (old : List ℕ) (k : Resources) → length old ≡ bytes_limit → All (λ o. length o.path ≡ path_limit) k.list → (j : ℕ)
    → part_at (laid_in old k) (lens_of k) j ≡ path_of (get_or (resources_of k) j no_resource)
part_natural old k long h j =
    let paths : List (List ℕ) = map (λ (o : Resource). o.path) (resources_of k) in
    let sized : Sized paths = all_map (λ (o : Resource). o.path) (λ p. length p ≡ path_limit) (resources_of k) (all_take (λ (o : Resource). length o.path ≡ path_limit) k.count k.list h) in
    let rest : List ℕ = drop (length paths * path_limit) old in
    let bytes : List ℕ = flat paths ++ rest in
    let number : length paths ≡ length (resources_of k) = length-map (resources_of k) (λ (o : Resource). o.path) in
    ap (λ b. part_at b (lens_of k) j) (laid_room old paths long)
    ∙ cases (ltb j (length (resources_of k)))
    (λ e. let inside : j < length (resources_of k) = ltb-true j (length (resources_of k)) e in
    let held : j < length bytes / path_limit = omega (arith, length-append (flat paths) rest, flat_length paths sized, number) in
    part_inside bytes (lens_of k) j held
    ∙ rw (
      flat_at paths sized rest j no_resource.path (rw number inside),
      get_or-map (λ (o : Resource). o.path) (resources_of k) j no_resource,
      lens_inside k j inside,
    ))
    (λ e. let past : length (resources_of k) ≤ j = ltb-false j (length (resources_of k)) e in
    part_unlong bytes (lens_of k) j (lens_past k j past) ∙ rw (get_or-eq_default (resources_of k) no_resource past))

-- the same in a buffer of zeros
pub part_laid : (k : Resources) → All (λ o. length o.path ≡ path_limit) k.list → (j : ℕ)
    → part_at (laid k).bytes (laid k).lens j ≡ path_of (get_or (resources_of k) j no_resource)
unfolding laid
part_laid k h j = part_natural (replicate bytes_limit 0) k (length-replicate {A = ℕ} bytes_limit 0) h j

-- what is laid into a buffer of zeros, with the lengths, are the laid paths
pub laid_zeros : (k : Resources) {bytes lens : List ℕ} → bytes ≡ laid_in (replicate bytes_limit 0) k → lens ≡ lens_of k
    → (bytes ≡ (laid k).bytes) × (lens ≡ (laid k).lens)
unfolding laid
laid_zeros k of-bytes of-lens = (of-bytes, of-lens)

flat_append : (ps qs : List (List ℕ)) → flat (ps ++ qs) ≡ flat ps ++ flat qs
unfolding flat
flat_append [] qs = refl
flat_append (p ∷ ps) qs = rw (flat_append ps qs, append_assoc)

flat_one : (p : List ℕ) → flat (p ∷ []) ≡ p
unfolding flat
flat_one p = append-nil p

-- one path more, pasted behind the others
pub paste_laid : (rest : List ℕ) (ps : List (List ℕ)) → Sized ps → (p : List ℕ) → length p ≡ path_limit → (n : ℕ) → n ≡ length ps
    → paste (flat ps ++ drop (n * path_limit) rest) (n * path_limit) p path_limit ≡ flat (ps ++ (p ∷ [])) ++ drop ((n + 1) * path_limit) rest
paste_laid rest ps h p sized n number =
    let long : length (flat ps) ≡ n * path_limit = omega (arith, flat_length ps h) in
    let next : n * path_limit + path_limit ≡ (n + 1) * path_limit = omega arith in
    let tail = drop (n * path_limit) rest in
    let behind : drop (n * path_limit + path_limit) (flat ps ++ tail) ≡ drop ((n + 1) * path_limit) rest =
    ap (λ m. drop (m + path_limit) (flat ps ++ tail)) (sym long) ∙ drop-append-add (flat ps) tail path_limit
    ∙ drop-drop path_limit (n * path_limit) rest ∙ ap (λ m. drop m rest) next in
    rw (take_at (flat ps) tail (n * path_limit) long, take_all path_limit p (omega arith), behind, flat_append, flat_one)
