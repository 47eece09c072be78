-- Laws: The remarks of the walk: each is the hop count and the liveness of its claim, by its chain among all claims. Assumes nothing.
use Rattle.std.specs.Prelude.{◌≡◌, refl, true, ◌&&◌, List, [], ◌∷◌, ◌++◌, map, ℕ, suc, length}
use Rattle.std.proofs.Common.{ap, sym, ◌∙◌, append_assoc}
use Rattle.lists.specs.Lists.{every}
use Rattle.register.specs.Chain.{numbered, chain, hops_of, current}
use Rattle.register.specs.Laws.{chain_ind}
use Rattle.register.specs.Register.{actors_of, resources_of}
use Rattle.register.specs.declared.Claim.{Claim}
use Rattle.register.specs.declared.Register.{Register}
use Rattle.soundness_rules.specs.Sound.{World, world_of, sound_claims}
use Rattle.soundness_rules.proofs.Chains.{place_above}
use Rattle.gate_rules.specs.Places.{first_hit, first_miss, first_none}
use Rattle.coverage_table.specs.Table.{Remark, remark_of, hops_over, lives_over, remark_on}
use Rattle.coverage_table.specs.Hearing.{remark_among}

-- the world that the claims of a register are judged among
abbrev pub world_around : Register → World
world_around r = world_of r.version (actors_of r.actors) (resources_of r.resources)

-- the remark on a claim with the chain above it
abbrev pub remark_over : ℕ → Claim → List Claim → Remark
remark_over moment c higher = record { claim = c; hops = length higher; lives = current moment c && every (current moment) higher }

module _ (moment : ℕ) where
  -- the remarks on claims, latest first
  abbrev pub remarks_on : List Claim → List Remark
  remarks_on [] = []
  remarks_on (c ∷ earlier) = let remarks = remarks_on earlier in remark_on moment remarks c ∷ remarks

  -- a number's remark says the length of its chain, and whether all of it is current
  source_hops : (L : List Claim) (p : ℕ) → hops_over (remark_of (remarks_on L) p) ≡ length (chain (λ d. d.id) (λ d. d.parent) L p)
  source_hops = chain_ind (λ d. d.id) (λ d. d.parent) (λ L p H. hops_over (remark_of (remarks_on L) p) ≡ length H)
      (λ p. ap hops_over (first_none (λ n. numbered (λ d. d.id) (λ d. d.parent) p n.claim) [] refl))
      (λ c L p e ih. ap hops_over (first_hit (λ n. numbered (λ d. d.id) (λ d. d.parent) p n.claim) (remark_on moment (remarks_on L) c) (remarks_on L) e) ∙ ap suc ih)
      (λ c L p e ih. ap hops_over (first_miss (λ n. numbered (λ d. d.id) (λ d. d.parent) p n.claim) (remark_on moment (remarks_on L) c) (remarks_on L) e) ∙ ih)

  source_lives : (L : List Claim) (p : ℕ) → lives_over (remark_of (remarks_on L) p) ≡ every (current moment) (chain (λ d. d.id) (λ d. d.parent) L p)
  source_lives = chain_ind (λ d. d.id) (λ d. d.parent) (λ L p H. lives_over (remark_of (remarks_on L) p) ≡ every (current moment) H)
      (λ p. ap lives_over (first_none (λ n. numbered (λ d. d.id) (λ d. d.parent) p n.claim) [] refl))
      (λ c L p e ih. ap lives_over (first_hit (λ n. numbered (λ d. d.id) (λ d. d.parent) p n.claim) (remark_on moment (remarks_on L) c) (remarks_on L) e)
      ∙ ap (λ b. current moment c && b) ih)
      (λ c L p e ih. ap lives_over (first_miss (λ n. numbered (λ d. d.id) (λ d. d.parent) p n.claim) (remark_on moment (remarks_on L) c) (remarks_on L) e) ∙ ih)

  -- so the remark on the next claim is what its chain among the earlier ones says
  pub remark_earlier : (L : List Claim) (c : Claim) → remark_on moment (remarks_on L) c ≡ remark_among moment L c
  remark_earlier L c =
      ap (λ h. record { claim = c; hops = h; lives = current moment c && lives_over (remark_of (remarks_on L) c.parent) }) (source_hops L c.parent)
      ∙ ap (λ b. record { claim = c; hops = hops_of L c; lives = current moment c && b }) (source_lives L c.parent)

  -- and in a sound list what its chain among all says
  pub remark_place : (w : World) (L : List Claim) (c : Claim) (M : List Claim) → sound_claims w (L ++ c ∷ M) ≡ true
      → remark_on moment (remarks_on M) c ≡ remark_among moment (L ++ c ∷ M) c
  remark_place w L c M h = remark_earlier M c ∙ ap (remark_over moment c) (sym (place_above w L c M h))

  -- the remarks on a sound list are what the chains among all say
  pub remarks_among : (w : World) (K M : List Claim) → sound_claims w (K ++ M) ≡ true → remarks_on M ≡ map (remark_among moment (K ++ M)) M
  remarks_among w K [] h = refl
  remarks_among w K (c ∷ M) h =
      let joined : (K ++ (c ∷ [])) ++ M ≡ K ++ c ∷ M = append_assoc K (c ∷ []) M in
      ap (λ n. n ∷ remarks_on M) (remark_place w K c M h)
      ∙ ap (λ l. remark_among moment (K ++ c ∷ M) c ∷ l) (remarks_among w (K ++ (c ∷ [])) M (rw joined h) ∙ ap (λ all. map (remark_among moment all) M) joined)
