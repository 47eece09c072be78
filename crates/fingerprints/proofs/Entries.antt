-- The entries after one is put at its place, over any list and count: as many numbers as before or one more behind them, the number's own entry new, the
-- entry of any other as it was. Assumes nothing.
use Rattle.std.proofs.Common.{◌≡◌, refl, ap, sym, ◌∙◌, Bool, true, false, List, [], ◌∷◌, ◌++◌, map, ℕ, zero, suc, ◌<◌, ◌≤◌, arith, length, take, set, eqb-true}
use Rattle.lists.specs.Tests.{cases, clash, or_left, or_right, or_other}
use Rattle.lists.specs.Lists.{any}
use Rattle.gate_rules.specs.Gate.{first_of}
use Rattle.gate_rules.specs.Places.{first_hit, first_miss}
use Rattle.fingerprints.specs.Fingerprints.{is_for, entry_place}
use Rattle.fingerprints.proofs.Laws.{entry_hit, entry_miss, entry_nil}
use Rattle.fingerprints.specs.declared.Entry.{Entry}

-- a new number: the entry stands behind the others, where there is room
pub put_new : (n k : ℕ) (l : List Entry) (e : Entry) → any (is_for n) (take k l) ≡ false → k < length l
    → take (suc k) (set l (entry_place n (take k l)) e) ≡ take k l ++ (e ∷ [])
put_new n k [] e none room = absurd (omega (arith, room))
put_new n zero (d ∷ l) e none room = rw (entry_nil n)
put_new n (suc k) (d ∷ l) e none room =
    rw (entry_miss n d (take k l) (or_left (is_for n d) (any (is_for n) (take k l)) none))
    (ap (λ m. d ∷ m) (put_new n k l e (or_right (is_for n d) (any (is_for n) (take k l)) none) (omega (arith, room))))

-- and where there is none, nothing changes
pub put_short : (n k : ℕ) (l : List Entry) (e : Entry) → any (is_for n) (take k l) ≡ false → length l ≤ k
    → take (suc k) (set l (entry_place n (take k l)) e) ≡ take k l
put_short n zero [] e none short = refl
put_short n (suc k) [] e none short = refl
put_short n zero (d ∷ l) e none short = absurd (omega (arith, short))
put_short n (suc k) (d ∷ l) e none short =
    rw (entry_miss n d (take k l) (or_left (is_for n d) (any (is_for n) (take k l)) none))
    (ap (λ m. d ∷ m) (put_short n k l e (or_right (is_for n d) (any (is_for n) (take k l)) none) (omega (arith, short))))

-- a number that has an entry: the numbers stay, its own entry is the new one, that of any other stays
pub put_numbers : (n k : ℕ) (l : List Entry) (e : Entry) → e.resource ≡ n → any (is_for n) (take k l) ≡ true
    → map (λ d. d.resource) (take k (set l (entry_place n (take k l)) e)) ≡ map (λ d. d.resource) (take k l)
put_numbers n zero l e own some = refl
put_numbers n (suc k) [] e own some = refl
put_numbers n (suc k) (d ∷ l) e own some =
    cases (is_for n d)
    (λ h. rw (entry_hit n d (take k l) h) (ap (λ m. m ∷ map (λ c. c.resource) (take k l)) (own ∙ eqb-true n d.resource h)))
    (λ h. rw (entry_miss n d (take k l) h)
    (ap (λ m. d.resource ∷ m) (put_numbers n k l e own (or_other (is_for n d) (any (is_for n) (take k l)) some h))))

pub put_own : (n k : ℕ) (l : List Entry) (e : Entry) → is_for n e ≡ true → any (is_for n) (take k l) ≡ true
    → first_of (is_for n) (take k (set l (entry_place n (take k l)) e)) ≡ e ∷ []
put_own n zero l e own some = clash false some refl
put_own n (suc k) [] e own some = clash false some refl
put_own n (suc k) (d ∷ l) e own some =
    cases (is_for n d)
    (λ h. rw (entry_hit n d (take k l) h) (first_hit (is_for n) e (take k l) own))
    (λ h. rw (entry_miss n d (take k l) h)
    (first_miss (is_for n) d (take k (set l (entry_place n (take k l)) e)) h
    ∙ put_own n k l e own (or_other (is_for n d) (any (is_for n) (take k l)) some h)))

-- the first of a list whose rest is answered alike
pub first_next : (p : Entry → Bool) (d : Entry) (l m : List Entry) → first_of p l ≡ first_of p m → first_of p (d ∷ l) ≡ first_of p (d ∷ m)
first_next p d l m h =
    cases (p d) (λ e. first_hit p d l e ∙ sym (first_hit p d m e)) (λ e. first_miss p d l e ∙ h ∙ sym (first_miss p d m e))

pub put_other : (n m k : ℕ) (l : List Entry) (e : Entry) → (p : is_for m e ≡ false) → ((d : Entry) → is_for n d ≡ true → is_for m d ≡ false)
    → any (is_for n) (take k l) ≡ true
    → first_of (is_for m) (take k (set l (entry_place n (take k l)) e)) ≡ first_of (is_for m) (take k l)
put_other n m zero l e other apart some = refl
put_other n m (suc k) [] e other apart some = refl
put_other n m (suc k) (d ∷ l) e other apart some =
    cases (is_for n d)
    (λ h. rw (entry_hit n d (take k l) h)
    (first_miss (is_for m) e (take k l) other ∙ sym (first_miss (is_for m) d (take k l) (apart d h))))
    (λ h. rw (entry_miss n d (take k l) h)
    (first_next (is_for m) d (take k (set l (entry_place n (take k l)) e)) (take k l)
    (put_other n m k l e other apart (or_other (is_for n d) (any (is_for n) (take k l)) some h))))

-- the first of two lists together
pub first_append : (p : Entry → Bool) (a l m : List Entry) → first_of p l ≡ first_of p m → first_of p (a ++ l) ≡ first_of p (a ++ m)
first_append p [] l m h = h
first_append p (d ∷ a) l m h = first_next p d (a ++ l) (a ++ m) (first_append p a l m h)

-- a last one: found where none was before it, and not asked of another number
pub first_last : (p : Entry → Bool) (l : List Entry) (e : Entry) → any p l ≡ false → p e ≡ true → first_of p (l ++ (e ∷ [])) ≡ e ∷ []
first_last p [] e none own = first_hit p e [] own
first_last p (d ∷ l) e none own = first_miss p d (l ++ (e ∷ [])) (or_left (p d) (any p l) none) ∙ first_last p l e (or_right (p d) (any p l) none) own

pub first_without : (p : Entry → Bool) (l : List Entry) (e : Entry) → p e ≡ false → first_of p (l ++ (e ∷ [])) ≡ first_of p l
first_without p [] e other = first_miss p e [] other
first_without p (d ∷ l) e other = first_next p d (l ++ (e ∷ [])) l (first_without p l e other)
