-- Laws of keys and of what they hold, as the code's answers say them. Assumes nothing.
use Rattle.std.proofs.Common.{ℕ, ◌+◌, ◌≤◌, ◌<◌, ◌≡◌, refl, sym, ap, ◌∙◌, List, [], ◌∷◌, Bool, true, false, cond, ◌||◌, arith, eqb-true, leb-true, lt-ltb, le-ltb, ltb-true, ltb-false, eqb, leb, ltb, length, take, drop, Option, Some, None}
use borrow.Author.Tests.{eqb-false}
use Rattle.lists.specs.Tests.{cases, and_left}
use Rattle.lists.specs.Lists.{every, splice, same}
use Rattle.lists.specs.Splices.{splice_part, splice_behind, splice_before}
use Rattle.rights.specs.Rights.{right_count}
use Rattle.actions.specs.Actions.{use_limit}
use Rattle.json_tokens.specs.Tokens.{Token, mark, text, no_token, zero_mark, tokens}
use Rattle.json_rules.specs.Names.{kind_names, default_domain, place_of, id_place, actor_place, kind_place, read_place, write_place, execute_place, flags_place, domain_place, depth_place}
use Rattle.json_rules.specs.Members.{Setting, Value, letters, figure, figures, settings, Taken, missed, made, take_text, take_number, take_numbers, take_settings, take_zero, take_value, is_id_byte, is_id_text, id_length, taking}
use Rattle.json_rules.specs.Actions.{as_letters, as_figure, as_figures, as_settings, flags_of}
use Rattle.json_reading.specs.declared.held.Held.{Held}
use Rattle.json_reading.specs.Answers.{Behind, is_marked, is_text_key, block_of, list_room, limited, held_whole, HeldSays, HeldAnyway, Apart, KeptApart, HoldsValue}
use Rattle.json_reading.proofs.Laws.{past_unmarked}
use Rattle.json_reading.proofs.Keys.{single_key, domain_last}

-- some tokens that begin with no text
module _ (ts : List Token) where
  pub text_mark : (b : ℕ) (us : List Token) → ts ≡ mark b ∷ us → take_text ts ≡ missed
  text_mark b us e = rw e

  pub text_none : ts ≡ [] → take_text ts ≡ missed
  text_none e = rw e

  pub text_broken : (us : List Token) → ts ≡ no_token ∷ us → take_text ts ≡ missed
  text_broken us e = rw e

-- what is made of what was taken, by whether it may stand
module _ {A B : Type 0} (fits : A → Bool) (make : A → B) (p : Taken A) where
  pub made_took : (a : A) (rest : List Token) → p ≡ taking a rest → fits a ≡ true → made fits make p ≡ taking (make a) rest
  made_took a rest e f = rw (e, f)

  pub made_unfit : (a : A) (rest : List Token) → p ≡ taking a rest → fits a ≡ false → made fits make p ≡ missed
  made_unfit a rest e f = rw (e, f)

  pub made_missed : p ≡ missed → made fits make p ≡ missed
  made_missed e = rw e

made_of : {A B : Type 0} (t : Bool) (make : A → B) (a b : A) (ts rest : List Token) →
    cond t (taking a ts) missed ≡ taking b rest → cond t (taking (make a) ts) missed ≡ taking (make b) rest
made_of true make a b ts rest e = cc
made_of false make a b ts rest e = cc

made_none : {A B : Type 0} (t : Bool) (make : A → B) (a : A) (ts : List Token) →
    cond t (taking a ts) missed ≡ missed → cond t (taking (make a) ts) missed ≡ missed
made_none true make a ts e = cc
made_none false make a ts e = refl

-- the same of what may stand already
module _ {A B : Type 0} (fits : A → Bool) (make : A → B) where
  pub made_taken : (p : Taken A) (a : A) (rest : List Token) → made fits (λ b. b) p ≡ taking a rest → made fits make p ≡ taking (make a) rest
  made_taken (taking b ts) a rest e = made_of (fits b) make b a ts rest e
  made_taken missed a rest e = cc

  pub made_untaken : (p : Taken A) → made fits (λ b. b) p ≡ missed → made fits make p ≡ missed
  made_untaken (taking b ts) e = made_none (fits b) make b ts e
  made_untaken missed e = refl

-- what each key holds
module _ (ts : List Token) where
  pub value_id : take_value id_place ts ≡ made is_id_text letters (take_text ts)
  unfolding take_value
  value_id = refl

  pub value_actor : take_value actor_place ts ≡ made (λ n. true) figure (take_number ts)
  unfolding take_value
  value_actor = refl

  pub value_kind : take_value kind_place ts ≡ made (λ x. ltb (place_of kind_names x) right_count) (λ x. figure (place_of kind_names x)) (take_text ts)
  unfolding take_value
  value_kind = refl

  pub value_list : (key : ℕ) → read_place ≤ key → key ≤ execute_place →
      take_value key ts ≡ made (λ ns. leb (length ns) use_limit) figures (take_numbers ts)
  unfolding take_value
  value_list key low high =
      cases (eqb key read_place) (λ e. rw (eqb-true key read_place e))
      (λ n. cases (eqb key write_place) (λ e. rw (eqb-true key write_place e))
      (λ m. let last : key ≡ execute_place = omega (arith, eqb-false key read_place n, eqb-false key write_place m) in rw last))

  pub value_flags : take_value flags_place ts ≡ made (λ ss. true) settings (take_settings ts)
  unfolding take_value
  value_flags = refl

  pub value_domain : take_value domain_place ts ≡ made (same default_domain) letters (take_text ts)
  unfolding take_value
  value_domain = refl

  pub value_depth : take_value depth_place ts ≡ take_zero ts
  unfolding take_value
  value_depth = refl

-- what the code says of a key's value: all that it keeps of it
module _ (s : List ℕ) (at key : ℕ) (h : Held) (p : Taken Value) where
  pub says_held : (v : Value) (next n from len : ℕ) → p ≡ taking v (tokens (drop next s)) → h ≡ held_whole next n from len →
      at < next → next ≤ length s → ((numbers : List ℕ) → HoldsValue s numbers key n from len v) → HeldAnyway s at key (Some h) p
  says_held v next n from len e f low high holds numbers = rw f (v, e, (low, high), holds numbers)

-- where the array is not touched, it is kept
pub kept_same : (o : Option Held) (key : ℕ) (xs : List ℕ) → KeptApart o key xs xs
kept_same (Some h) key xs = λ k n first last other few. refl
kept_same None key xs = tt

-- what is kept of a value, by its key
module _ (s numbers : List ℕ) (key n from len : ℕ) (v : Value) where
  pub holds_letters : key ≡ id_place → as_letters v ≡ take len (drop from s) → len ≤ id_length → from + len ≤ length s → HoldsValue s numbers key n from len v
  holds_letters e kept short inside = record {
    letters = λ k. (kept, short, inside);
    single = λ h. let bounds = single_key key h in absurd (omega arith);
    several = λ low high. absurd (omega arith);
    flags = λ k. absurd (omega arith);
  }

  pub holds_figure : eqb key actor_place || eqb key kind_place ≡ true → as_figure v ≡ n → HoldsValue s numbers key n from len v
  holds_figure h kept =
      let bounds = single_key key h in
      record {
        letters = λ k. absurd (omega arith);
        single = λ k. kept;
        several = λ low high. absurd (omega arith);
        flags = λ k. absurd (omega arith);
      }

  pub holds_list : read_place ≤ key → key ≤ execute_place → as_figures v ≡ take len (drop (block_of key) numbers) → len ≤ use_limit →
      HoldsValue s numbers key n from len v
  holds_list low high kept short = record {
    letters = λ k. absurd (omega arith);
    single = λ h. let bounds = single_key key h in absurd (omega arith);
    several = λ l g. (kept, short);
    flags = λ k. absurd (omega arith);
  }

  pub holds_flags : key ≡ flags_place → flags_of (as_settings v) ≡ n → HoldsValue s numbers key n from len v
  holds_flags e kept = record {
    letters = λ k. absurd (omega arith);
    single = λ h. let bounds = single_key key h in absurd (omega arith);
    several = λ low high. absurd (omega arith);
    flags = λ k. kept;
  }

  -- nothing is kept of the trust domain and the depth
  pub holds_nothing : domain_place ≤ key → HoldsValue s numbers key n from len v
  holds_nothing low = record {
    letters = λ k. absurd (omega arith);
    single = λ h. let bounds = single_key key h in absurd (omega arith);
    several = λ l g. absurd (omega arith);
    flags = λ k. absurd (omega arith);
  }

-- an id has up to 64 bytes
pub id_short : (x : List ℕ) → is_id_text x ≡ true → length x ≤ id_length
unfolding is_id_text
id_short x h = leb-true (length x) id_length (and_left (leb (length x) id_length) (every is_id_byte x) h)

-- what a text is to the keys that hold one
module _ (key : ℕ) (ts : List Token) (x : List ℕ) (rest : List Token) (e : ts ≡ text x ∷ rest) where
  pub id_took : key ≡ id_place → is_id_text x ≡ true → take_value key ts ≡ taking (letters x) rest
  id_took k h = rw k (value_id ts ∙ made_took is_id_text letters (take_text ts) x rest (rw e) h)

  pub id_unfit : key ≡ id_place → is_id_text x ≡ false → take_value key ts ≡ missed
  id_unfit k h = rw k (value_id ts ∙ made_unfit is_id_text letters (take_text ts) x rest (rw e) h)

  pub kind_took : key ≡ kind_place → place_of kind_names x < right_count → take_value key ts ≡ taking (figure (place_of kind_names x)) rest
  kind_took k h =
      rw k (value_kind ts ∙ made_took (λ y. ltb (place_of kind_names y) right_count) (λ y. figure (place_of kind_names y)) (take_text ts) x rest (rw e)
      (lt-ltb (place_of kind_names x) right_count h))

  pub kind_unfit : key ≡ kind_place → right_count ≤ place_of kind_names x → take_value key ts ≡ missed
  kind_unfit k h =
      rw k (value_kind ts ∙ made_unfit (λ y. ltb (place_of kind_names y) right_count) (λ y. figure (place_of kind_names y)) (take_text ts) x rest (rw e)
      (le-ltb (place_of kind_names x) right_count h))

  pub domain_took : key ≡ domain_place → same default_domain x ≡ true → take_value key ts ≡ taking (letters x) rest
  domain_took k h = rw k (value_domain ts ∙ made_took (same default_domain) letters (take_text ts) x rest (rw e) h)

  pub domain_unfit : key ≡ domain_place → same default_domain x ≡ false → take_value key ts ≡ missed
  domain_unfit k h = rw k (value_domain ts ∙ made_unfit (same default_domain) letters (take_text ts) x rest (rw e) h)

-- and nothing else is anything to them
pub no_text_held : (key : ℕ) (ts : List Token) → is_text_key key ≡ true → take_text ts ≡ missed → take_value key ts ≡ missed
no_text_held key ts h e =
    cases (eqb key id_place) (λ k. rw (eqb-true key id_place k) (value_id ts ∙ made_missed is_id_text letters (take_text ts) e))
    (λ n. cases (eqb key kind_place)
    (λ k. rw (eqb-true key kind_place k)
    (value_kind ts ∙ made_missed (λ y. ltb (place_of kind_names y) right_count) (λ y. figure (place_of kind_names y)) (take_text ts) e))
    (λ m. rw (domain_last key h (eqb-false key id_place n) (eqb-false key kind_place m))
    (value_domain ts ∙ made_missed (same default_domain) letters (take_text ts) e)))

-- what the keys hold whose code answers a number
module _ (key : ℕ) (ts rest : List Token) where
  pub actor_took : (n : ℕ) → key ≡ actor_place → take_number ts ≡ taking n rest → take_value key ts ≡ taking (figure n) rest
  actor_took n k e = rw k (value_actor ts ∙ made_took (λ m. true) figure (take_number ts) n rest e refl)

  pub flags_took : (ss : List Setting) → key ≡ flags_place → take_settings ts ≡ taking ss rest → take_value key ts ≡ taking (settings ss) rest
  flags_took ss k e = rw k (value_flags ts ∙ made_took (λ us. true) settings (take_settings ts) ss rest e refl)

  pub depth_took : key ≡ depth_place → ts ≡ mark zero_mark ∷ rest → take_value key ts ≡ taking (figure 0) rest
  depth_took k e = rw k (value_depth ts ∙ rw e)

module _ (key : ℕ) (ts : List Token) where
  pub actor_missed : key ≡ actor_place → take_number ts ≡ missed → take_value key ts ≡ missed
  actor_missed k e = rw k (value_actor ts ∙ made_missed (λ m. true) figure (take_number ts) e)

  pub flags_missed : key ≡ flags_place → take_settings ts ≡ missed → take_value key ts ≡ missed
  flags_missed k e = rw k (value_flags ts ∙ made_missed (λ us. true) settings (take_settings ts) e)

  pub depth_missed : key ≡ depth_place → is_marked zero_mark ts ≡ false → take_value key ts ≡ missed
  depth_missed k h = rw k (value_depth ts ∙ past_unmarked zero_mark (λ more. taking (figure 0) more) ts h)

-- the numbers of a list in their own places: what its key holds, and the other lists as they were
module _ (s old new : List ℕ) (at key : ℕ) (low : read_place ≤ key) (high : key ≤ execute_place) (room : length old ≡ list_room) where
  pub list_held : (ns : List ℕ) (len next : ℕ) → limited (take_numbers (tokens (drop at s))) ≡ taking ns (tokens (drop next s)) → len ≡ length ns →
      len ≤ use_limit → new ≡ splice (block_of key) ns old → Behind s at next →
      HeldSays s at key new (Some (held_whole next 0 (block_of key) len)) (take_value key (tokens (drop at s)))
  list_held ns len next e long short written behind =
      let within : block_of key + length ns ≤ length old = omega arith in
      let kept : ns ≡ take len (drop (block_of key) new) = rw (written, long) (sym (splice_part (block_of key) ns old within)) in
      let value = value_list (tokens (drop at s)) key low high
      ∙ made_taken (λ ms. leb (length ms) use_limit) figures (take_numbers (tokens (drop at s))) ns (tokens (drop next s)) e in
      (figures ns, value, behind, holds_list s new key 0 (block_of key) len (figures ns) low high kept short)

  pub list_apart : (ns : List ℕ) → length ns ≤ use_limit → new ≡ splice (block_of key) ns old → Apart key old new
  list_apart ns short written k n first last other few =
      let within : block_of key + length ns ≤ length old = omega arith in
      rw written
      (cases (ltb k key)
      (λ e. let before : k < key = ltb-true k key e in splice_before (block_of key) ns old within (block_of k) n (omega arith))
      (λ e. let behind : key ≤ k = ltb-false k key e in ap (λ l. take n l) (splice_behind (block_of key) ns old within (block_of k) (omega arith))))

  pub list_missed : limited (take_numbers (tokens (drop at s))) ≡ missed → take_value key (tokens (drop at s)) ≡ missed
  list_missed e =
      value_list (tokens (drop at s)) key low high ∙ made_untaken (λ ms. leb (length ms) use_limit) figures (take_numbers (tokens (drop at s))) e
