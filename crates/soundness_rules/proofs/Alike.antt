-- Laws: What soundness does not ask of claims: outside version 2 what they hold as left; and that claims stored with what they have left are judged
-- in version 2 as they were. Assumes nothing.
use Rattle.std.proofs.Common.{◌≡◌, Bool, true, false, ◌&&◌, ◌||◌, ℕ, ◌-◌, ◌∙◌, arith, List, [], ◌∷◌, ◌++◌, map, le-leb}
use Rattle.std.proofs.Math.Path.{refl, ap, sym}
use Rattle.std.proofs.Math.Bool.{not}
use mathlib.Core.List.{reverse-append, reverse-cons, reverse-reverse}
use Rattle.std.proofs.Math.Dec.{eqb}
use Rattle.std.proofs.Math.ListN.{length}
use Rattle.std.proofs.lemmas.List.{length-map}
use Rattle.lists.specs.Tests.{cases}
use Rattle.lists.specs.Lists.{ands}
use Rattle.lists.specs.Each.{any_map, cons_clash, reverse_map}
use Rattle.register.specs.Limits.{left_limit, version_two, tells_left}
use Rattle.register.specs.Register.{with_left, claim_as}
use Rattle.register.specs.Chain.{latest, chain, above, circling}
use Rattle.register.specs.Laws.{chain_ind, chain_nil, chain_hit, chain_miss, chain_map, circling_map, bare}
use Rattle.register.specs.declared.Claim.{Claim}
use Rattle.soundness_rules.specs.Sound.{World, claim_fits, names_stand, root_kept, drawn_from, machine_may, hands_left, fewer_left, over_chain, drawn, fresh, alone, over, acceptable, sound_claims, stored, each_stored}
use Rattle.soundness_rules.proofs.Places.{sound_claims_cons}

-- the world in another version
abbrev pub in_version : ℕ → World → World
in_version version w = record {
  known = w.known;
  machine = w.machine;
  ownerless = w.ownerless;
  listed = w.listed;
  keeps = w.keeps;
  version = version;
}

-- chains are read off what else claims hold
pub chain_bare : (L : List Claim) (p : ℕ) → chain (λ d. d.id) (λ d. d.parent) (map bare L) p ≡ map bare (chain (λ d. d.id) (λ d. d.parent) L p)
chain_bare L p = chain_map bare (λ d. d.id) (λ d. d.parent) L p

pub circling_bare : (L : List Claim) (h : ℕ)
    → circling (λ d. d.grantor) (λ d. d.holder) (map bare L) h ≡ circling (λ d. d.grantor) (λ d. d.holder) L h
circling_bare L h = circling_map bare (λ d. d.grantor) (λ d. d.holder) L h

-- and so is whether a number is an earlier claim's id
pub fresh_bare : (L : List Claim) (c : Claim) → fresh (map bare L) c ≡ fresh L c
unfolding fresh
fresh_bare L c = ap not (any_map bare (λ d. eqb c.id d.id) L)

pub bare_length : (L K : List Claim) → map bare L ≡ map bare K → length L ≡ length K
bare_length L K e = sym (length-map L bare) ∙ ap length e ∙ length-map K bare

drawn_from_bare : (p c : Claim) → drawn_from p c ≡ drawn_from (bare p) (bare c)
unfolding drawn_from
drawn_from_bare p c = refl

-- two chains that hold the same besides, over which two claims that hold the same besides have as fewer hands left
module _ (v u : ℕ) (c d : Claim) (same : bare c ≡ bare d) where
  over_chain_alike : (L K : List Claim) → map bare L ≡ map bare K
      → ((p : Claim) (M : List Claim) (q : Claim) (N : List Claim) → L ≡ p ∷ M → K ≡ q ∷ N → fewer_left v p M c ≡ fewer_left u q N d)
      → over_chain v L c ≡ over_chain u K d
  unfolding over_chain
  over_chain_alike [] [] e f = refl
  over_chain_alike [] (q ∷ K) e f = cons_clash (sym e)
  over_chain_alike (p ∷ L) [] e f = cons_clash e
  over_chain_alike (p ∷ L) (q ∷ K) e f =
      three_same _ _ _ _ _ _
      (drawn_from_alike p q (first_same p q L K e))
      (f p L q K refl refl)
      (ap not (sym (circling_bare (p ∷ L) c.holder) ∙ ap (λ H. circling (λ x. x.grantor) (λ x. x.holder) H c.holder) e
      ∙ circling_bare (q ∷ K) c.holder ∙ ap (λ (x : Claim). circling (λ x. x.grantor) (λ x. x.holder) (q ∷ K) x.holder) same))
    where
      three_same : (a b e f g h : Bool) → a ≡ f → b ≡ g → e ≡ h → ands (a ∷ b ∷ e ∷ []) ≡ ands (f ∷ g ∷ h ∷ [])
      three_same a b e f g h x y z = rw (x, y, z)

      first_same : (p q : Claim) (L K : List Claim) → map bare (p ∷ L) ≡ map bare (q ∷ K) → bare p ≡ bare q
      first_same p q L K e = cc

      drawn_from_alike : (p q : Claim) → bare p ≡ bare q → drawn_from p c ≡ drawn_from q d
      drawn_from_alike p q e = drawn_from_bare p c ∙ ap (λ x. drawn_from x (bare c)) e ∙ ap (drawn_from (bare q)) same ∙ sym (drawn_from_bare q d)

placed_same : (a b e f g h i j : Bool) → a ≡ g → b ≡ h → e ≡ i → f ≡ j → a && (b && (e || f)) ≡ g && (h && (i || j))
placed_same a b e f g h i j p q r s = rw (p, q, r, s)

-- two claims that hold the same besides, and fit alike in two versions
module _ (w : World) (v u : ℕ) (c d : Claim) (same : bare c ≡ bare d) (fits : claim_fits v c ≡ claim_fits u d) where
  alone_alike : alone (in_version v w) c ≡ alone (in_version u w) d
  unfolding alone names_stand root_kept machine_may
  alone_alike = rw fits (ap (λ (x : Claim). ands (claim_fits u d ∷ names_stand w x ∷ root_kept w x ∷ machine_may w x ∷ [])) same)

  -- behind claims that hold the same besides
  module _ (L K : List Claim) (alike : map bare L ≡ map bare K) where
    fresh_alike : fresh L c ≡ fresh K d
    unfolding fresh
    fresh_alike = sym (fresh_bare L c) ∙ ap (λ M. fresh M c) alike ∙ fresh_bare K c ∙ ap (fresh K) same

    above_alike : map bare (above L c) ≡ map bare (above K d)
    above_alike = sym (chain_bare L c.parent) ∙ ap (λ M. chain (λ x. x.id) (λ x. x.parent) M c.parent) alike ∙ chain_bare K c.parent
        ∙ ap (λ (x : Claim). map bare (chain (λ y. y.id) (λ y. y.parent) K x.parent)) same

    -- they are judged alike, where they have as fewer hands left than their parents
    acceptable_alike : ((p : Claim) (M : List Claim) (q : Claim) (N : List Claim) → above L c ≡ p ∷ M → above K d ≡ q ∷ N → fewer_left v p M c ≡ fewer_left u q N d)
        → acceptable (in_version v w) L c ≡ acceptable (in_version u w) K d
    unfolding acceptable over drawn
    acceptable_alike fewer = placed_same _ _ _ _ _ _ _ _ alone_alike fresh_alike (ap (λ (x : Claim). eqb x.parent 0) same)
        (over_chain_alike v u c d same (above L c) (above K d) above_alike fewer)

-- outside version 2 what claims hold as left is not asked
module _ (w : World) (untold : tells_left w.version ≡ false) where
  fits_untold : (c d : Claim) → bare c ≡ bare d → claim_fits w.version c ≡ claim_fits w.version d
  unfolding claim_fits
  fits_untold c d same = bared c ∙ ap (claim_fits w.version) same ∙ sym (bared d)
    where
      bared : (x : Claim) → claim_fits w.version x ≡ claim_fits w.version (bare x)
      bared x = rw untold

  pub acceptable_untold : (L K : List Claim) (c d : Claim) → map bare L ≡ map bare K → bare c ≡ bare d → acceptable w L c ≡ acceptable w K d
  acceptable_untold L K c d alike same =
      acceptable_alike w w.version w.version c d same (fits_untold c d same) L K alike
      (λ p M q N e f. let long = bare_length (p ∷ M) (q ∷ N) (ap (map bare) (sym e) ∙ above_alike w w.version w.version c d same (fits_untold c d same) L K alike ∙ ap (map bare) f) in
      fewer_untold w.version untold p M c q N d (omega (arith, long)))
    where
      fewer_untold : (version : ℕ) → tells_left version ≡ false → (p : Claim) (M : List Claim) (c q : Claim) (N : List Claim) (d : Claim) → length M ≡ length N
          → fewer_left version p M c ≡ fewer_left version q N d
      fewer_untold version untold p M c q N d long = rw (untold, long)

  pub sound_claims_untold : (L K : List Claim) → map bare L ≡ map bare K → sound_claims w L ≡ sound_claims w K
  sound_claims_untold [] [] e = refl
  sound_claims_untold [] (d ∷ K) e = cons_clash (sym e)
  sound_claims_untold (c ∷ L) [] e = cons_clash e
  sound_claims_untold (c ∷ L) (d ∷ K) e =
      let same : bare c ≡ bare d = cc in
      let alike : map bare L ≡ map bare K = cc in
      rw (sound_claims_cons w c L, sound_claims_cons w d K, acceptable_untold L K c d alike same, sound_claims_untold L K alike)

-- what is stored is stored as it is
pub stored_stored : (version : ℕ) (L : List Claim) (c : Claim) → stored version L (stored version L c) ≡ stored version L c
stored_stored version L c = cases (tells_left version) (λ e. rw e) (λ e. rw e)

-- in version 2 a claim is stored as it is
module _ (version : ℕ) (told : tells_left version ≡ true) where
  pub stored_told : (L : List Claim) (c : Claim) → stored version L c ≡ c
  stored_told L c = rw told

-- stored claims hold the same besides
pub each_stored_bare : (version : ℕ) (L : List Claim) → map bare (each_stored version L) ≡ map bare L
unfolding each_stored
each_stored_bare version [] = refl
each_stored_bare version (c ∷ L) = rw (each_stored_bare version L)

-- and count as they did in their version
each_stored_as : (version : ℕ) (L : List Claim) → map (claim_as version) (each_stored version L) ≡ map (claim_as version) L
unfolding each_stored
each_stored_as version [] = refl
each_stored_as version (c ∷ L) = cases (tells_left version) (λ e. rw (each_stored_as version L, e)) (λ e. rw (each_stored_as version L, e))

-- in the order of a register
pub stored_claims_as : (version : ℕ) (cs : List Claim) → map (claim_as version) (latest (each_stored version (latest cs))) ≡ map (claim_as version) cs
stored_claims_as version cs =
    sym (reverse_map (claim_as version) (each_stored version (latest cs)))
    ∙ ap latest (each_stored_as version (latest cs) ∙ sym (reverse_map (claim_as version) cs))
    ∙ reverse-reverse (map (claim_as version) cs)

-- one more claim is stored behind those that are
pub stored_claims_next : (version : ℕ) (cs : List Claim) (c : Claim)
    → latest (each_stored version (latest (cs ++ (c ∷ [])))) ≡ latest (each_stored version (latest cs)) ++ (stored version (latest cs) c ∷ [])
unfolding each_stored
stored_claims_next version cs c =
    ap (λ L. latest (each_stored version L)) (reverse-append cs (c ∷ [])) ∙ reverse-cons (stored version (latest cs) c) (each_stored version (latest cs))

pub stored_claims_length : (version : ℕ) (cs : List Claim) → length (latest (each_stored version (latest cs))) ≡ length cs
stored_claims_length version cs =
    sym (length-map (latest (each_stored version (latest cs))) (claim_as version)) ∙ ap length (stored_claims_as version cs) ∙ length-map cs (claim_as version)

-- a claim is acceptable where what is stored of it is
pub acceptable_stored : (w : World) (L : List Claim) (c : Claim) → acceptable w L (stored w.version L c) ≡ acceptable w L c
acceptable_stored w L c =
    cases (tells_left w.version) (λ told. ap (acceptable w L) (stored_told w.version told L c))
    (λ untold. acceptable_untold w untold L L (stored w.version L c) c refl refl)

-- a chain of stored claims: each with the hands that it has left
chain_stored : ℕ → List Claim → List Claim
chain_stored version [] = []
chain_stored version (d ∷ higher) = with_left (hands_left version higher d) d ∷ chain_stored version higher

chain_stored_lem : (version : ℕ) (L : List Claim) (p : ℕ)
    → chain (λ d. d.id) (λ d. d.parent) (each_stored version L) p ≡ chain_stored version (chain (λ d. d.id) (λ d. d.parent) L p)
unfolding each_stored chain_stored
chain_stored_lem version = chain_ind (λ d. d.id) (λ d. d.parent)
    (λ L p H. chain (λ d. d.id) (λ d. d.parent) (each_stored version L) p ≡ chain_stored version H)
    (λ p. chain_nil (λ d. d.id) (λ d. d.parent) p)
    (λ c L p e ih. chain_hit (λ d. d.id) (λ d. d.parent) (stored version L c) (each_stored version L) p e ∙ ap (λ H. stored version L c ∷ H) ih)
    (λ c L p e ih. chain_miss (λ d. d.id) (λ d. d.parent) (stored version L c) (each_stored version L) p e ∙ ih)

-- stored claims of another version are judged in version 2 as they were in theirs
module _ (w : World) (v : ℕ) (untold : tells_left v ≡ false) where
  stored_fits : (L : List Claim) (c : Claim) → claim_fits version_two (stored v L c) ≡ claim_fits v c
  unfolding claim_fits
  stored_fits L c = rw (untold, le-leb (left_limit - length (above L c)) left_limit (omega arith))

  stored_fewer : (L : List Claim) (c p : Claim) (M : List Claim) (q : Claim) (N : List Claim)
      → above (each_stored v L) c ≡ p ∷ M → above L c ≡ q ∷ N → fewer_left version_two p M (stored v L c) ≡ fewer_left v q N c
  unfolding chain_stored
  stored_fewer L c p M q N e f =
      let chained : p ∷ M ≡ chain_stored v (q ∷ N) = sym e ∙ chain_stored_lem v L c.parent ∙ ap (chain_stored v) f in
      let parent : p ≡ with_left (hands_left v N q) q = cc in
      rw (parent, f)

  acceptable_two : (L : List Claim) (c : Claim) → acceptable (in_version version_two w) (each_stored v L) (stored v L c) ≡ acceptable (in_version v w) L c
  acceptable_two L c = acceptable_alike w version_two v (stored v L c) c refl (stored_fits L c) (each_stored v L) L (each_stored_bare v L) (stored_fewer L c)

  pub sound_claims_two : (L : List Claim) → sound_claims (in_version version_two w) (each_stored v L) ≡ sound_claims (in_version v w) L
  unfolding sound_claims each_stored
  sound_claims_two [] = refl
  sound_claims_two (c ∷ L) = rw (acceptable_two L c, sound_claims_two L)
