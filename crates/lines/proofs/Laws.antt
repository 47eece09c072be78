-- Laws: The two laws of each line: its text reads as its value, whatever follows, and whatever reads as a value is that value's text and what follows
-- it. And how great and how long what is read can be. Assumes nothing.
use Rattle.std.proofs.Common.{ℕ, ◌+◌, ◌≤◌, ◌<◌, ◌≡◌, List, [], ◌∷◌, ◌++◌, Bool, ◌||◌, ltb, leb, length, sym, ap, ◌∙◌, append_assoc, append-nil, arith, length-append, eq-eqb, ne_eqb, le-leb, le-ltb, lt-ltb, eqb-true, leb-true, ltb-true, ltb-false}
use Rattle.std.proofs.Math.Path.{refl}
use Rattle.std.proofs.Math.Bool.{true, false, cond}
use Rattle.std.proofs.Math.Dec.{eqb}
use Rattle.std.proofs.Math.ListN.{drop}
use Rattle.std.proofs.Math.Seq.{drop-append_seam}
use Rattle.lists.specs.Tests.{cases, and_left, and_right, and_both, or_other}
use Rattle.lists.specs.Lists.{every}
use Rattle.register.specs.Limits.{human_kind, machine_kind, path_limit, path_byte_least, path_byte_greatest, ranged}
use Rattle.decimals.specs.Decimals.{digits, Parsed, got, large, bad, parse}
use Rattle.decimals.specs.Laws.{parse_digits, digits_parse}
use Rattle.decimals.specs.Answers.{starts}
use Rattle.refusals.specs.declared.Refusal.{Refusal}
use Rattle.lines.specs.Lines.{line_feed, Line, line, beyond, fault, begins, ended, parse_limited, at_least, parse_decimal, decimal_line, parse_word, word_line, human_line, machine_line, parse_kind, kind_line, scope_key, path_on, parse_scope, scope_line}
use Rattle.lines.specs.Reading.{State, going, failed, decimal, taken, read_form, LineForm, kind}

abbrev pub form_fits : LineForm → ℕ → Bool
form_fits (decimal key least greatest above) n = ranged least greatest n
form_fits kind n = eqb n human_kind || eqb n machine_kind

-- no line is none
line_over_clash : {A B : Type 0} {a : A} {rest : List ℕ} → ◌≡◌ {A = Line A} beyond (line a rest) → B
line_over_clash e = let never : ◌≡◌ {A = ℕ} 0 1 = cc in absurd (omega arith)

line_fault_clash : {A B : Type 0} {a : A} {rest : List ℕ} → ◌≡◌ {A = Line A} fault (line a rest) → B
line_fault_clash e = let never : ◌≡◌ {A = ℕ} 0 1 = cc in absurd (omega arith)

-- a text with the key in front begins with it
pub begins_append : (key t : List ℕ) → begins key (key ++ t) ≡ true
unfolding begins
begins_append [] t = refl
begins_append (k ∷ key) t = rw (eq-eqb k k refl) (begins_append key t)

-- a text that begins with a key is the key, and what follows it
pub begins_split : (key t : List ℕ) → begins key t ≡ true → t ≡ key ++ drop (length key) t
unfolding begins
begins_split [] t h = refl
begins_split (k ∷ key) [] h = let never : ◌≡◌ {A = ℕ} 0 1 = cc in absurd (omega arith)
begins_split (k ∷ key) (b ∷ t) h = go (eqb k b) refl h (begins_split key t)
  where
    go : (x : Bool) → eqb k b ≡ x → cond x (begins key t) false ≡ true → (begins key t ≡ true → t ≡ key ++ drop (length key) t)
        → b ∷ t ≡ k ∷ (key ++ drop (length key) t)
    go true e p ih = let same = eqb-true k b e in let rest = ih p in cc
    go false e p ih = let never : ◌≡◌ {A = ℕ} 0 1 = cc in absurd (omega arith)

-- the line of a number up to the greatest
limited_reads : (key : List ℕ) (greatest n : ℕ) (rest : List ℕ) → n ≤ greatest →
    parse_limited key greatest (decimal_line key n ++ rest) ≡ line n rest
unfolding parse_limited decimal_line ended starts
limited_reads key greatest n rest h =
    let shape : (key ++ (digits n ++ (line_feed ∷ []))) ++ rest ≡ key ++ (digits n ++ (line_feed ∷ rest)) = simp append_assoc in
    rw (shape, begins_append, drop-append_seam, parse_digits greatest n (line_feed ∷ rest) refl, le-leb n greatest h)

ended_line : (p : Parsed) (n : ℕ) (rest : List ℕ) → ended p ≡ line n rest → p ≡ got n (line_feed ∷ rest)
unfolding ended
ended_line (got m []) n rest h = line_fault_clash h
ended_line (got m (b ∷ t)) n rest h = go (eqb b line_feed) refl h
  where
    go : (x : Bool) → eqb b line_feed ≡ x → cond x (line m t) fault ≡ line n rest → got m (b ∷ t) ≡ got n (line_feed ∷ rest)
    go true e p = let feed = eqb-true b line_feed e in cc
    go false e p = line_fault_clash p
ended_line (large []) n rest h = line_fault_clash h
ended_line (large (b ∷ t)) n rest h = go (eqb b line_feed) h
  where
    go : (x : Bool) → cond x beyond fault ≡ line n rest → large (b ∷ t) ≡ got n (line_feed ∷ rest)
    go true p = line_over_clash p
    go false p = line_fault_clash p
ended_line bad n rest h = line_fault_clash h

pub limited_read : (key : List ℕ) (greatest n : ℕ) (rest t : List ℕ) → parse_limited key greatest t ≡ line n rest →
    (t ≡ decimal_line key n ++ rest) × (n ≤ greatest)
unfolding parse_limited decimal_line
limited_read key greatest n rest t h = go (begins key t) refl h
  where
    go : (x : Bool) → begins key t ≡ x → cond x (ended (parse greatest (drop (length key) t))) fault ≡ line n rest →
        (t ≡ (key ++ (digits n ++ (line_feed ∷ []))) ++ rest) × (n ≤ greatest)
    go true e p =
        let number = digits_parse greatest n (line_feed ∷ rest) (drop (length key) t) (ended_line (parse greatest (drop (length key) t)) n rest p) in
        (begins_split key t e ∙ rw number.text (simp append_assoc), number.within)
    go false e p = line_fault_clash p

-- what a line with a lower end came from
at_least_line : (least n : ℕ) (rest : List ℕ) (p : Line ℕ) → at_least least p ≡ line n rest → (p ≡ line n rest) × (leb least n ≡ true)
unfolding at_least
at_least_line least n rest (line m t) h = go (leb least m) refl h
  where
    go : (x : Bool) → leb least m ≡ x → cond x (line m t) fault ≡ line n rest → (line m t ≡ line n rest) × (leb least n ≡ true)
    go true e p = let same : m ≡ n = cc in (p, rw same at e)
    go false e p = line_fault_clash p
at_least_line least n rest beyond h = line_over_clash h
at_least_line least n rest fault h = line_fault_clash h

-- A number's line.
pub decimal_reads : (key : List ℕ) (least greatest n : ℕ) (rest : List ℕ) → ranged least greatest n ≡ true →
    parse_decimal key least greatest (decimal_line key n ++ rest) ≡ line n rest
unfolding at_least
decimal_reads key least greatest n rest h =
    let high = leb-true n greatest (and_right (leb least n) (leb n greatest) h) in
    rw (limited_reads key greatest n rest high, and_left (leb least n) (leb n greatest) h)

pub decimal_read : (key : List ℕ) (least greatest n : ℕ) (rest t : List ℕ) → parse_decimal key least greatest t ≡ line n rest →
    (t ≡ decimal_line key n ++ rest) × (ranged least greatest n ≡ true)
decimal_read key least greatest n rest t h =
    let whole = at_least_line least n rest (parse_limited key greatest t) h in
    let read = limited_read key greatest n rest t whole.0 in
    (read.0, and_both (leb least n) (leb n greatest) whole.1 (le-leb n greatest read.1))

pub decimal_value : (key : List ℕ) (least greatest n : ℕ) (rest t : List ℕ) → parse_decimal key least greatest t ≡ line n rest → n ≤ greatest
decimal_value key least greatest n rest t h =
    leb-true n greatest (and_right (leb least n) (leb n greatest) (decimal_read key least greatest n rest t h).1)

pub decimal_line_length : (key : List ℕ) (n : ℕ) → length (decimal_line key n) ≡ length key + length (digits n) + 1
unfolding decimal_line
decimal_line_length key n = simp length-append (omega arith)

-- A line of one of two words, of which the first does not begin the second, with two numbers.
module _ (first : List ℕ) (one : ℕ) (second : List ℕ) (other : ℕ) where
  pub word_reads : ((rest : List ℕ) → begins first (second ++ rest) ≡ false) → (n : ℕ) (rest : List ℕ) → eqb n one || eqb n other ≡ true →
      parse_word first one second other (word_line first one second n ++ rest) ≡ line n rest
  unfolding parse_word word_line
  word_reads apart n rest h =
      cases (eqb n one)
      (λ e. rw (e, begins_append first rest, drop-append_seam first rest) (ap (λ (m : ℕ). line m rest) (sym (eqb-true n one e))))
      (λ e.
      let same = eqb-true n other (or_other (eqb n one) (eqb n other) h e) in
      rw (e, apart rest, begins_append second rest, drop-append_seam second rest) (ap (λ (m : ℕ). line m rest) (sym same)))

  pub word_read : eqb other one ≡ false → (n : ℕ) (rest t : List ℕ) → parse_word first one second other t ≡ line n rest →
      (t ≡ word_line first one second n ++ rest) × (eqb n one || eqb n other ≡ true)
  unfolding parse_word word_line
  word_read differ n rest t h = go (begins first t) (begins second t) refl refl h
    where
      go : (x y : Bool) → begins first t ≡ x → begins second t ≡ y →
          cond x (line one (drop (length first) t)) (cond y (line other (drop (length second) t)) fault) ≡ line n rest →
          (t ≡ cond (eqb n one) first second ++ rest) × (eqb n one || eqb n other ≡ true)
      go true y e f p =
          let same : one ≡ n = cc in
          let follows : drop (length first) t ≡ rest = cc in
          rw (← same, eq-eqb one one refl) (rw follows at (begins_split first t e), refl)
      go false true e f p =
          let same : other ≡ n = cc in
          let follows : drop (length second) t ≡ rest = cc in
          rw (← same, differ, eq-eqb other other refl) (rw follows at (begins_split second t f), refl)
      go false false e f p = line_fault_clash p

-- The line of an actor's kind.
human_apart : (rest : List ℕ) → begins human_line (machine_line ++ rest) ≡ false
unfolding begins
human_apart rest = refl

pub kind_reads : (k : ℕ) (rest : List ℕ) → eqb k human_kind || eqb k machine_kind ≡ true → parse_kind (kind_line k ++ rest) ≡ line k rest
kind_reads = word_reads human_line human_kind machine_line machine_kind human_apart

pub kind_read : (k : ℕ) (rest t : List ℕ) → parse_kind t ≡ line k rest →
    (t ≡ kind_line k ++ rest) × (eqb k human_kind || eqb k machine_kind ≡ true)
kind_read = word_read human_line human_kind machine_line machine_kind refl

-- a byte of a path
abbrev is_path_byte : ℕ → Bool
is_path_byte b = ranged path_byte_least path_byte_greatest b

-- a path behind the bytes of it so far
path_reads : (path p rest : List ℕ) → every is_path_byte p ≡ true → length path + length p ≤ path_limit →
    path_on path (p ++ (line_feed ∷ rest)) ≡ line (path ++ p) rest
unfolding path_on
path_reads path [] rest h short = rw append-nil
path_reads path (b ∷ p) rest h short =
    let byte = and_left (is_path_byte b) (every is_path_byte p) h in
    let low = leb-true path_byte_least b (and_left (leb path_byte_least b) (leb b path_byte_greatest) byte) in
    let high = leb-true b path_byte_greatest (and_right (leb path_byte_least b) (leb b path_byte_greatest) byte) in
    rw (ne_eqb b line_feed (λ e. omega arith), le-ltb b path_byte_least low, le-ltb path_byte_greatest b high, lt-ltb (length path) path_limit (omega arith))
    (path_reads (path ++ (b ∷ [])) p rest (and_right (is_path_byte b) (every is_path_byte p) h) (simp length-append (omega arith)) ∙ rw append_assoc)

-- a text that reads as a path, behind the bytes of it so far
record IsPath (path whole rest t : List ℕ) : Type 0 where
  pub more : List ℕ
  pub text : t ≡ more ++ (line_feed ∷ rest)
  pub bytes : every is_path_byte more ≡ true
  pub all : whole ≡ path ++ more
  pub short : length path ≤ path_limit → length whole ≤ path_limit

is_path_more : (path whole rest t : List ℕ) (b : ℕ) → path_byte_least ≤ b → b ≤ path_byte_greatest → length path < path_limit →
    IsPath (path ++ (b ∷ [])) whole rest t → IsPath path whole rest (b ∷ t)
is_path_more path whole rest t b low high room i = record {
  more = b ∷ i.more;
  text = ap (λ (l : List ℕ). b ∷ l) i.text;
  bytes =
      let byte = and_both (leb path_byte_least b) (leb b path_byte_greatest) (le-leb path_byte_least b low) (le-leb b path_byte_greatest high) in
      and_both (is_path_byte b) (every is_path_byte i.more) byte i.bytes;
  all = i.all ∙ rw append_assoc;
  short = λ _. i.short (simp length-append (omega arith));
}

path_read : (path whole rest t : List ℕ) → path_on path t ≡ line whole rest → IsPath path whole rest t
unfolding path_on
path_read path whole rest [] h = line_fault_clash h
path_read path whole rest (b ∷ t) h =
    go (eqb b line_feed) (ltb b path_byte_least) (ltb path_byte_greatest b) (ltb (length path) path_limit) refl refl refl refl h
    (path_read (path ++ (b ∷ [])) whole rest t)
  where
    go : (w x y z : Bool) → eqb b line_feed ≡ w → ltb b path_byte_least ≡ x → ltb path_byte_greatest b ≡ y → ltb (length path) path_limit ≡ z →
        cond w (line path t) (cond x fault (cond y fault (cond z (path_on (path ++ (b ∷ [])) t) fault))) ≡ line whole rest →
        (path_on (path ++ (b ∷ [])) t ≡ line whole rest → IsPath (path ++ (b ∷ [])) whole rest t) → IsPath path whole rest (b ∷ t)
    go true x y z feed low high room p ih =
        let ten = eqb-true b line_feed feed in
        let same : path ≡ whole = cc in
        let follows : t ≡ rest = cc in
        record { more = []; text = cc; bytes = refl; all = sym same ∙ sym (append-nil path); short = λ h. omega (arith, ap length same) }
    go false true y z feed low high room p ih = line_fault_clash p
    go false false true z feed low high room p ih = line_fault_clash p
    go false false false false feed low high room p ih = line_fault_clash p
    go false false false true feed low high room p ih =
        is_path_more path whole rest t b (ltb-false b path_byte_least low) (ltb-false path_byte_greatest b high) (ltb-true (length path) path_limit room) (ih p)

-- A path's line.
pub scope_reads : (p rest : List ℕ) → every (ranged path_byte_least path_byte_greatest) p ≡ true → length p ≤ path_limit →
    parse_scope (scope_line p ++ rest) ≡ line p rest
unfolding parse_scope scope_line
scope_reads p rest h short =
    let shape : (scope_key ++ (p ++ (line_feed ∷ []))) ++ rest ≡ scope_key ++ (p ++ (line_feed ∷ rest)) = simp append_assoc in
    rw (shape, begins_append scope_key (p ++ (line_feed ∷ rest))) (path_reads [] p rest h (omega arith))

pub scope_read : (p rest t : List ℕ) → parse_scope t ≡ line p rest →
    (t ≡ scope_line p ++ rest) × (every (ranged path_byte_least path_byte_greatest) p ≡ true) × (length p ≤ path_limit)
unfolding parse_scope scope_line
scope_read p rest t h = go (begins scope_key t) refl h
  where
    go : (x : Bool) → begins scope_key t ≡ x → cond x (path_on [] (drop (length scope_key) t)) fault ≡ line p rest →
        (t ≡ (scope_key ++ (p ++ (line_feed ∷ []))) ++ rest) × (every (ranged path_byte_least path_byte_greatest) p ≡ true) × (length p ≤ path_limit)
    go true e q =
        let read = path_read [] p rest (drop (length scope_key) t) q in
        let whole : p ≡ read.more = read.all in
        (begins_split scope_key t e ∙ rw (read.text, ← whole) (simp append_assoc), rw (← whole) at read.bytes, read.short (omega arith))
    go false e q = line_fault_clash q

-- What a reading gives is what stands for it where the line fails, or the line's value.
taken_value : {A : Type 0} (Q : A → Type 0) (none : A) (above : Refusal) (l : ℕ) (p : Line A) → Q none → ((a : A) (rest : List ℕ) → p ≡ line a rest → Q a) →
    Q (taken none above l p).value
taken_value Q none above l (line a rest) q f = f a rest refl
taken_value Q none above l beyond q f = q
taken_value Q none above l fault q f = q

-- a number is at most its greatest
pub form_bound : (key : List ℕ) (least greatest : ℕ) (above : Refusal) (st : State) → (read_form (decimal key least greatest above) st).value ≤ greatest
form_bound key least greatest above (going t l) =
    taken_value (λ n. n ≤ greatest) 0 above l (parse_decimal key least greatest t) (omega arith) (λ n rest e. decimal_value key least greatest n rest t e)
form_bound key least greatest above (failed why l) = omega arith
