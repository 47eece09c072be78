-- What is proved of soundness, over claims latest first (L, M, N) and over a register's claims in their order (cs): what earlier, added
-- and struck claims have to do with it, where chains lead, that same registers are judged alike, and its plain reading.
-- Assumes nothing.
use Rattle.std.proofs.Common.{◌≡◌, Bool, true, false, not, ◌&&◌, List, [], ◌∷◌, ◌++◌, map, ℕ, suc, ◌≤◌, eqb, length, take}
use Rattle.lists.specs.Lists.{any, every, ands, filter, All, distinct}
use Rattle.register.specs.Limits.{hop_limit}
use Rattle.register.specs.Register.{Same}
use Rattle.register.specs.Chain.{latest, chain, above, hops_of, chain_of}
use Rattle.register.specs.declared.Claim.{Claim}
use Rattle.register.specs.declared.Register.{Register}
use Rattle.soundness_rules.specs.Sound.{World, claim_fits, names_stand, root_kept, machine_may, acceptable, sound_claims, sound}
use Rattle.soundness_rules.proofs.Places as places
use Rattle.soundness_rules.proofs.Chains as chains
use Rattle.soundness_rules.proofs.Striking as striking
use Rattle.soundness_rules.proofs.Sameness as sameness
use Rattle.soundness_rules.proofs.Natural as natural
use Rattle.soundness_rules.proofs.Circles as circles
use Rattle.soundness_rules.specs.Struck.{struck, strike}
use Rattle.soundness_rules.specs.Roots.{Climbs, root_of, each_drawn}

-- 1. The first claims of a sound register are sound.
pub prefix_sound : (w : World) (n : ℕ) (cs : List Claim) → sound_claims w (latest cs) ≡ true → sound_claims w (latest (take n cs)) ≡ true
prefix_sound = places.take_sound

-- 2. One more claim keeps a register's claims sound exactly where it is acceptable behind them.
pub append_sound : (w : World) (cs : List Claim) (c : Claim) → sound_claims w (latest (cs ++ (c ∷ []))) ≡ acceptable w (latest cs) c && sound_claims w (latest cs)
append_sound = places.append_sound

-- 3a. Sound claims stay sound where those that a test names go with all that is drawn from them.
pub strike_sound : (w : World) (P : Claim → Bool) (L : List Claim) → sound_claims w L ≡ true → sound_claims w (strike (λ c. c.id) (λ c. c.parent) P L) ≡ true
strike_sound = striking.strike_sound

-- 3b. Those that go are those with a named claim on their chain, themselves included, and the others keep their order.
pub strike_natural : (w : World) (P : Claim → Bool) (L : List Claim) → sound_claims w L ≡ true
    → strike (λ c. c.id) (λ c. c.parent) P L ≡ filter (λ c. not (any P (chain (λ d. d.id) (λ d. d.parent) L c.id))) L
strike_natural w P L h = striking.strike_natural (λ c. c.id) (λ c. c.parent) P L (striking.sound_distinct w L h)

-- 3c. What is left has the chain that it had.
pub strike_kept : (P : Claim → Bool) (M : List Claim) (c : Claim) → struck (λ c. c.id) (λ c. c.parent) P M c ≡ false
    → above (strike (λ c. c.id) (λ c. c.parent) P M) c ≡ above M c
strike_kept = striking.above_kept (λ c. c.id) (λ c. c.parent)

-- 4a. In a sound register of either version a claim has at most 16 hops.
pub hops_most : (w : World) (L : List Claim) (c : Claim) (M : List Claim) → sound_claims w (L ++ c ∷ M) ≡ true → hops_of M c ≤ hop_limit
hops_most = places.place_hops

-- 4b. Its chain goes from parent to parent, and the last one's parent's number is 0.
pub chain_climbs : (w : World) (L : List Claim) (c : Claim) (M : List Claim) → sound_claims w (L ++ c ∷ M) ≡ true → Climbs c.parent (above M c)
chain_climbs = chains.place_climbs

-- 4c. Its chain ends with a root.
pub chain_root : (w : World) (L : List Claim) (c : Claim) (M : List Claim) → sound_claims w (L ++ c ∷ M) ≡ true → (root_of c (above M c)).parent ≡ 0
chain_root = chains.place_root

-- 4d. A chain has one member more than hops.
pub chain_length : (M : List Claim) (c : Claim) → length (chain_of M c) ≡ suc (hops_of M c)
chain_length = chains.chain_hops

-- 4e. Its chain is found among all claims by its id as among the earlier ones.
pub chain_whole : (w : World) (L : List Claim) (c : Claim) (M : List Claim) → sound_claims w (L ++ c ∷ M) ≡ true
    → chain (λ d. d.id) (λ d. d.parent) (L ++ c ∷ M) c.id ≡ chain_of M c
chain_whole = chains.place_chain

-- 4f. (e) No two claims of its chain have one holder.
pub holders_distinct : (w : World) (L : List Claim) (c : Claim) (M : List Claim) → sound_claims w (L ++ c ∷ M) ≡ true
    → distinct (map (λ d. d.holder) (chain_of M c)) ≡ true
holders_distinct = circles.holders_distinct

-- 4g. (e) Who granted the root holds no claim of its chain but the root: a claim with a parent is held by another.
pub root_unreturned : (w : World) (L : List Claim) (c : Claim) (M : List Claim) → sound_claims w (L ++ c ∷ M) ≡ true
    → All (λ d. (d.parent ≡ 0 → ⊥) → d.holder ≡ (root_of c (above M c)).grantor → ⊥) (chain_of M c)
root_unreturned = circles.root_unreturned

-- 5. Registers that are the same are judged alike.
pub sound_same : (r s : Register) → Same r s → sound r ≡ sound s
sound_same = sameness.sound_same

-- 6. Claims are sound where all fit, ids are distinct, what they name stands, (a) and (c) hold of each, and (b), (d) and (e) of each over the earlier ones.
pub sound_claims_natural : (w : World) (L : List Claim)
    → sound_claims w L ≡ ands (every (claim_fits w.version) L ∷ distinct (map (λ c. c.id) L) ∷ every (names_stand w) L ∷ every (root_kept w) L ∷ every (machine_may w) L ∷ each_drawn w.version L ∷ [])
sound_claims_natural = natural.sound_claims_natural

-- 7a. Two claims with one id are never sound.
pub doubled_unsound : (w : World) (L : List Claim) (c : Claim) (M : List Claim) (d : Claim) (N : List Claim) → c.id ≡ d.id → sound_claims w (L ++ c ∷ (M ++ d ∷ N)) ≡ false
doubled_unsound = places.doubled_unsound

-- 7b. In a sound register a parent's number that is not 0 is an earlier claim's id: no parent stands later, and there is no circle.
pub parent_earlier : (w : World) (L : List Claim) (c : Claim) (M : List Claim) → sound_claims w (L ++ c ∷ M) ≡ true → (c.parent ≡ 0 → ⊥) → any (λ d. eqb c.parent d.id) M ≡ true
parent_earlier = places.place_parent
