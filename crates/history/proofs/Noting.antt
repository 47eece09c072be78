-- What is left in the annals after an accepted grant and after an accepted withdrawal, and what stays true of it: striking by lines is
-- striking by chains. Assumes nothing.
use Rattle.std.proofs.Common.{◌≡◌, refl, ap, sym, subst, ◌∙◌, Bool, true, false, not, ◌||◌, true≢false, List, [], ◌∷◌, ◌++◌, ℕ, ◌<◌, arith, eq-eqb, ne_eqb, eqb, ltb, length}
use mathlib.Core.Path.{fun_ext}
use mathlib.Core.Bool.{or-true, or-false, false≢true}
use borrow.Author.Tests.{not-true}
use Rattle.lists.specs.Tests.{cases, or_left}
use Rattle.lists.specs.Lists.{any, Each, All, dropping, filter}
use Rattle.lists.specs.Each.{each_all, each_imp, all_imp, all_both, all_append, all_none, any_either, any_map, all_map, any_append}
use Rattle.lists.specs.Filters.{dropping_ind, all_dropping, dropping_none, dropping_same, dropping_dropping, dropping_map, filter_not, filter_hit, filter_miss, filter_passed}
use Rattle.register.specs.Limits.{moment_end}
use Rattle.register.specs.Register.{with_left}
use Rattle.register.specs.Chain.{chain, above}
use Rattle.register.specs.Laws.{all_chain, chain_map}
use Rattle.register.specs.declared.Claim.{Claim}
use Rattle.soundness_rules.specs.Sound.{hands_left, stored}
use Rattle.soundness_rules.proofs.Striking.{above_kept, strike_same}
use Rattle.soundness_rules.specs.Struck.{struck, strike}
use Rattle.change_rules.specs.Changes.{source_live, Withdrawal, names}
use Rattle.history.specs.History.{Note, Annals, claims, serials, among, gone, remains, entered, started, wrote, withdraw}

-- each is to those behind it as R says and over its chain as F says: striking keeps that
pub strike_each : {C : Type 0} (id up : C → ℕ) (R : C → C → Type 0) (F : List C → C → Type 0) (P : C → Bool) (L : List C)
    → Each (λ M c. All (R c) M × F (chain id up M (up c)) c) L → Each (λ M c. All (R c) M × F (chain id up M (up c)) c) (strike id up P L)
strike_each id up R F P =
    dropping_ind (struck id up P) (λ L K. Each (λ M c. All (R c) M × F (chain id up M (up c)) c) L → Each (λ M c. All (R c) M × F (chain id up M (up c)) c) K)
    (λ h. h) (λ c L e ih h. ih h.1)
    (λ c L e ih h. ((all_dropping (struck id up P) (R c) L h.0.0, rw (above_kept id up P L c e) h.0.1), ih h.1))

abbrev id_in : Note → ℕ
id_in e = e.claim.id

abbrev parent_in : Note → ℕ
parent_in e = e.claim.parent

-- chains and striking are read off the claims
pub chain_claims : (L : List Note) (p : ℕ) → chain (λ c. c.id) (λ c. c.parent) (claims L) p ≡ claims (chain id_in parent_in L p)
chain_claims L p = chain_map (λ (e : Note). e.claim) (λ c. c.id) (λ c. c.parent) L p

pub strike_claims : (P : Claim → Bool) (L : List Note)
    → strike (λ c. c.id) (λ c. c.parent) P (claims L) ≡ claims (strike id_in parent_in (λ e. P e.claim) L)
strike_claims P = dropping_map (λ (e : Note). e.claim) (struck (λ c. c.id) (λ c. c.parent) P) (struck id_in parent_in (λ e. P e.claim))
    (λ M e. rw (chain_claims M e.claim.parent, any_map (λ (e : Note). e.claim) P (chain id_in parent_in M e.claim.parent)))

-- what is granted at a clock reading, over its chain: the reading is in range, the source lives then, and the claim is as it is stored
abbrev pub Timely : ℕ → Note → List Note → Type 0
Timely version e H = (ltb e.clock moment_end ≡ true) × (eqb e.claim.parent 0 || source_live e.clock (claims H) ≡ true)
    × (with_left (hands_left version (claims H) e.claim) e.claim ≡ e.claim)

-- behind an entry are lower serial numbers, and behind one of the start only such
abbrev pub After : Note → Note → Type 0
After e d = (d.serial < e.serial) × (e.old ≡ true → d.old ≡ true)

-- its line is that of its chain
abbrev pub Lined : ℕ → List Note → Note → Type 0
Lined version H e = (e.old ≡ false → Timely version e H) × (e.line ≡ serials H)

abbrev pub Fine : ℕ → List Note → Type 0
Fine version L = Each (λ M e. All (After e) M × Lined version (chain id_in parent_in M (parent_in e)) e) L

abbrev Below : ℕ → Note → Type 0
Below n e = e.serial < n

pub record Kept (version : ℕ) (b : Annals) : Type 0 where
  pub fine : Fine version (remains b)
  pub used : All (Below (length b.all)) (remains b)
  pub spent : All (λ t. t < length b.all) b.named

abbrev has : List ℕ → Note → Bool
has named e = among named e.serial

-- a serial number above all that are named is not among them
above_named : (n : ℕ) (named : List ℕ) → All (λ t. t < n) named → among named n ≡ false
above_named n named h = all_none (eqb n) named (all_imp (λ t. t < n) (λ t. eqb n t ≡ false) (λ t k. ne_eqb n t (omega arith)) named h)

-- what remains is what is not struck
remains_dropping : (b : Annals) → remains b ≡ dropping (λ M. gone b.named) b.all
remains_dropping b = filter_not (gone b.named) b.all

-- the annals with a claim granted at a moment
abbrev pub noted : Annals → Claim → ℕ → Annals
noted b c moment = record { all = entered false moment (remains b) (length b.all) c ∷ b.all; named = b.named }

-- an accepted grant: the new entry remains
pub remains_noted : (version : ℕ) (b : Annals) (c : Claim) (moment : ℕ) → Kept version b
    → remains (noted b c moment) ≡ entered false moment (remains b) (length b.all) c ∷ remains b
remains_noted version b c moment v =
    let spared : gone b.named (entered false moment (remains b) (length b.all) c) ≡ false = rw (above_named (length b.all) b.named v.spent)
    (any_map (λ (e : Note). e.serial) (among b.named) (chain id_in parent_in (remains b) c.parent)
    ∙ all_none (has b.named) (chain id_in parent_in (remains b) c.parent) (all_chain id_in parent_in _ (remains b) c.parent
    (all_imp _ _ (λ e h. or_left (among b.named e.serial) (any (among b.named) e.line) (not-true (gone b.named e) h)) (remains b)
    (filter_passed (λ e. not (gone b.named e)) b.all)))) in
    filter_hit (λ e. not (gone b.named e)) (entered false moment (remains b) (length b.all) c) b.all (ap not spared)

pub kept_noted : (version : ℕ) (b : Annals) (c : Claim) (moment : ℕ) → Kept version b → ltb moment moment_end ≡ true
    → eqb c.parent 0 || source_live moment (above (claims (remains b)) c) ≡ true → stored version (claims (remains b)) c ≡ c → Kept version (noted b c moment)
kept_noted version b c moment v timely lives as_stored = record {
  fine = rw (remains_noted version b c moment v) (
    (
      all_imp (Below (length b.all)) (After (entered false moment (remains b) (length b.all) c)) (λ d below. (below, λ z. absurd (false≢true z))) (remains b) v.used,
      ((λ z. (timely, rw (chain_claims (remains b) c.parent) at lives, rw (chain_claims (remains b) c.parent) at as_stored)), refl),
    ),
    v.fine,
  );
  used = rw (remains_noted version b c moment v) (omega arith, all_imp _ _ (λ d p. omega arith) (remains b) v.used);
  spent = all_imp _ _ (λ t p. omega arith) b.named v.spent;
}

-- the entries that P names
abbrev naming : (Claim → Bool) → List Note → List Note
naming P L = filter (λ e. P e.claim) L

-- among those that stand, their serial numbers are those of the claims that P names
abbrev Agrees : (Claim → Bool) → List ℕ → Note → Type 0
Agrees P named e = has named e ≡ P e.claim

agree : (version : ℕ) (P : Claim → Bool) (L : List Note) → Fine version L → All (Agrees P (serials (naming P L))) L
agree version P [] h = tt
agree version P (e ∷ L) h = let low = all_imp (After e) (Below e.serial) (λ d a. a.0) L h.0.0 in
    cases (P e.claim)
    (λ q. subst (λ K. All (Agrees P (serials K)) (e ∷ L)) (sym (filter_hit (λ e. P e.claim) e L q)) (
      rw (eq-eqb e.serial e.serial refl) (sym q),
      all_both (Below e.serial) (Agrees P (serials (naming P L))) (Agrees P (e.serial ∷ serials (naming P L)))
          (λ d l a. rw (ne_eqb d.serial e.serial (omega arith)) a) L low (agree version P L h.1),
    ))
    (λ q. subst (λ K. All (Agrees P (serials K)) (e ∷ L)) (sym (filter_miss (λ e. P e.claim) e L q)) (
      above_named e.serial (serials (naming P L))
          (all_map (λ (d : Note). d.serial) (λ t. t < e.serial) (naming P L) (all_dropping (λ M e. not (P e.claim)) (Below e.serial) L low)) ∙ sym q,
      agree version P L h.1,
    ))

-- an accepted withdrawal: striking by lines is striking by chains
gone_strike : (version : ℕ) (named : List ℕ) (L : List Note) → Fine version L → dropping (λ M. gone named) L ≡ strike id_in parent_in (has named) L
gone_strike version named L h = dropping_same (λ M e. gone named e) (struck id_in parent_in (has named)) L (each_imp _ _
    (λ M e k. rw (k.1.1, any_map (λ (e : Note). e.serial) (among named) (chain id_in parent_in M (parent_in e)))) L h)

gone_either : (named more : List ℕ) (e : Note) → gone (more ++ named) e ≡ gone more e || gone named e
gone_either named more e = ap (λ P. any P (e.serial ∷ e.line)) (fun_ext (λ s. any_append (eqb s) more named))
    ∙ any_either (among more) (among named) (e.serial ∷ e.line)

pub remains_withdraw : (version : ℕ) (b : Annals) (w : Withdrawal) → Fine version (remains b)
    → remains (wrote version b (withdraw w)) ≡ strike id_in parent_in (λ e. names w e.claim) (remains b)
remains_withdraw version b w h =
    let more : List ℕ = serials (naming (names w) (remains b)) in
    remains_dropping (wrote version b (withdraw w)) ∙ sym (dropping_dropping (λ M. gone (more ++ b.named)) (λ M. gone more) (λ M. gone b.named) b.all (each_all _ (λ M e. (
      (λ k. gone_either b.named more e ∙ rw k (or-true (gone more e))),
      λ k. sym (gone_either b.named more e ∙ rw k (or-false (gone more e))),
    )) b.all))
    ∙ ap (dropping (λ M. gone more)) (sym (remains_dropping b)) ∙ gone_strike version more (remains b) h ∙ strike_same id_in parent_in (has more) (λ e. names w e.claim) (remains b) (agree version (names w) (remains b) h)

pub kept_withdraw : (version : ℕ) (b : Annals) (w : Withdrawal) → Kept version b → Kept version (wrote version b (withdraw w))
kept_withdraw version b w v = record {
  fine = rw (remains_withdraw version b w v.fine) (strike_each id_in parent_in After (Lined version) (λ e. names w e.claim) (remains b) v.fine);
  used = rw (remains_withdraw version b w v.fine) (all_dropping (struck id_in parent_in (λ e. names w e.claim)) (Below (length b.all)) (remains b) v.used);
  spent = all_append (λ t. t < length b.all) (serials (naming (names w) (remains b))) b.named
      (all_map (λ (e : Note). e.serial) (λ t. t < length b.all) (naming (names w) (remains b))
      (all_dropping (λ M e. not (names w e.claim)) (Below (length b.all)) (remains b) v.used)) v.spent;
}

-- the annals at the start
pub started_claims : (L : List Claim) → claims (started L) ≡ L
unfolding started
started_claims [] = refl
started_claims (c ∷ L) = ap (λ K. c ∷ K) (started_claims L)

started_length : (L : List Claim) → length (started L) ≡ length L
unfolding started
started_length [] = refl
started_length (c ∷ L) = rw (started_length L)

abbrev Starting : ℕ → Note → Type 0
Starting n e = (e.serial < n) × (e.old ≡ true)

started_used : (L : List Claim) → All (Starting (length L)) (started L)
unfolding started
started_used [] = tt
started_used (c ∷ L) = ((omega arith, refl), all_imp (Starting (length L)) (Starting (length (c ∷ L))) (λ e h. (omega arith, h.1)) (started L) (started_used L))

started_fine : (version : ℕ) (L : List Claim) → Fine version (started L)
unfolding started
started_fine version [] = tt
started_fine version (c ∷ L) = (
  (
    all_imp (Starting (length L)) (After (entered true 0 (started L) (length L) c)) (λ d q. (q.0, λ z. q.1)) (started L) (started_used L),
    ((λ z. absurd (true≢false z)), refl),
  ),
  started_fine version L,
)

none_among : (l : List ℕ) → any (among []) l ≡ false
none_among l = all_none (among []) l (each_all _ (λ M s. refl) l)

pub remains_started : (L : List Claim) → remains (record { all = started L; named = [] }) ≡ started L
remains_started L = remains_dropping (record { all = started L; named = [] }) ∙ dropping_none (λ M. gone []) (started L) (each_all _ (λ M e. none_among (e.serial ∷ e.line)) (started L))

pub kept_started : (version : ℕ) (L : List Claim) → Kept version (record { all = started L; named = [] })
kept_started version L = record {
  fine = rw (remains_started L) (started_fine version L);
  used = rw (remains_started L, started_length L) (all_imp (Starting (length L)) (Below (length L)) (λ e q. q.0) (started L) (started_used L));
  spent = tt;
}
