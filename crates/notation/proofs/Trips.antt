-- Laws of reading and writing: a text that was written is read back as the call or header that it is of, and an answer is the only one.
-- Assumes nothing.
use mathlib.Core.Path.{◌≡◌, refl, sym, ap, ap₂, ◌∙◌}
use mathlib.Core.Bool.{Bool, true, false, not}
use mathlib.Core.List.{List, [], ◌∷◌, ◌++◌, map, append_assoc, append-nil}
use Prim.Native.Nat.{ℕ, suc, ◌^◌, ◌≤◌, ◌<◌}
use native.Mathlib.Omega.{arith}
use lib.IntN.{ℤ, pos, negsuc}
use lib.ListN.{length, take, drop}
use lib.Seq.{take_at}
use mir.Syntax.{w64}
use mir.Val.{SFits}
use borrow.Author.Tests.{ne_eqb, le-leb, lt-ltb, not-true}
use Rattle.lists.specs.Holds.{All}
use Rattle.lists.specs.Filters.{empty, head_or}
use Rattle.lists.proofs.Holding.{every, all_tested, all_imp}
use Rattle.groups.specs.Buffers.{Writes}
use Rattle.groups.specs.Signs.{turned}
use Rattle.groups.proofs.Writing.{writes_length}
use Rattle.std.proofs.Common.{Result, Ok, Err}
use Rattle.listing.specs.Decimals.{Digit, digits, integer}
use Rattle.listing.specs.Lines.{spaced, line_after}
use Rattle.listing.proofs.Digits.{digits_some, digits_decimal}
use Rattle.transactions.specs.declared.Header.{Header}
use Rattle.transactions.specs.declared.Call.{Call}
use Rattle.transactions.specs.declared.Call.TheVariants.{Lookup, Insert, Remove, HandOver, Ceil, Floor, Succ, Pred, Fast, Open, Step, Close, Sweep, Tally}
use Rattle.transactions.specs.Calls.{any, small, numbers_of, Typed, TypedHeader}
use Rattle.transactions.proofs.Calling.{numbers_same, header_same}
use Rattle.notation.specs.declared.Line.{Line}
use Rattle.notation.specs.declared.Kind.{Kind}
use Rattle.notation.specs.declared.Kind.TheVariants.{Key, Coin, Small}
use Rattle.notation.specs.declared.Misread.{Misread}
use Rattle.notation.specs.Words.{blank, pieces, remark, words}
use Rattle.notation.specs.Numerals.{all_digits, integer_of, value_as, digits_value, number}
use Rattle.notation.specs.Forms.{names, start, name_of, kinds, find, numbers, formed, sense, sense_of}
use Rattle.notation.specs.Texts.{text_of, header_text}
use Rattle.notation.proofs.Wording.{words_none}
use Rattle.notation.proofs.Numbering.{digits_right}

-- a word: some bytes, none of them blank, and no remark
pub record Solid (word : List ℕ) : Type 0 where
  pub some : empty word ≡ false
  pub plain : remark word ≡ false
  pub bytes : All (λ b. blank b ≡ false) word

pub solid_tested : (word : List ℕ) → empty word ≡ false → remark word ≡ false → every (λ b. not (blank b)) word ≡ true → Solid word
solid_tested word e p a = record { some = e; plain = p; bytes = all_imp _ _ (λ b h. not-true (blank b) h) word (all_tested (λ b. not (blank b)) word a) }

-- a word with a blank behind it is the first word
pieces_then : (word : List ℕ) (b : ℕ) (rest : List ℕ) → All (λ x. blank x ≡ false) word → blank b ≡ true → pieces (word ++ (b ∷ rest)) ≡ word ∷ pieces rest
pieces_then [] b rest a e = rw e
pieces_then (x ∷ word) b rest a e = rw (a.0, pieces_then word b rest a.1 e)

words_then : (word : List ℕ) (b : ℕ) (rest : List ℕ) → Solid word → blank b ≡ true → words (word ++ (b ∷ rest)) ≡ word ∷ words rest
unfolding words
words_then word b rest s e = rw (pieces_then word b rest s.bytes e, s.some, s.plain)

-- a digit is no blank
digit_solid : (b : ℕ) → Digit b → blank b ≡ false
digit_solid b d = rw (ne_eqb b 32 (λ e. omega arith), ne_eqb b 9 (λ e. omega arith), ne_eqb b 10 (λ e. omega arith), ne_eqb b 13 (λ e. omega arith))

some_bytes : (s : List ℕ) → 1 ≤ length s → empty s ≡ false
some_bytes [] h = absurd (omega arith)
some_bytes (b ∷ s) h = refl

digits_plain : (s : List ℕ) → All Digit s → remark s ≡ false
digits_plain [] a = refl
digits_plain (b ∷ s) a = ne_eqb b 35 (λ e. omega (arith, a.0.0))

digits_solid : (n : ℕ) → Solid (digits n)
digits_solid n = record { some = some_bytes (digits n) (digits_some n); plain = digits_plain (digits n) (digits_decimal n).only; bytes = all_imp Digit _ digit_solid (digits n) (digits_decimal n).only }

integer_solid : (z : ℤ) → Solid (integer z)
unfolding integer
integer_solid (pos n) = digits_solid n
integer_solid (negsuc n) = record { some = refl; plain = refl; bytes = (refl, (digits_solid (suc n)).bytes) }

-- LAW: the words of a line are its name and its numbers
pub words_line : (word : List ℕ) (zs : List ℤ) → Solid word → words (line_after word zs) ≡ word ∷ map integer zs
unfolding line_after
words_line word [] s = words_then word 10 [] s refl ∙ rw words_none
words_line word (z ∷ zs) s =
    rw (append_assoc (integer z) (spaced zs) (10 ∷ [])) (words_then word 32 (integer z ++ (spaced zs ++ (10 ∷ []))) s refl)
    ∙ ap {B = List (List ℕ)} (λ r. word ∷ r) (words_line (integer z) zs (integer_solid z))

-- the numbers of a text

digits_tested : (s : List ℕ) → All Digit s → all_digits s ≡ true
digits_tested [] a = refl
digits_tested (b ∷ s) a = rw (le-leb 48 b a.0.0, le-leb b 57 a.0.1) (digits_tested s a.1)

digits_number : (s : Bool) (k : Kind) (n : ℕ) → digits_value s k (digits n) ≡ value_as k (integer_of s n)
digits_number s k n =
    let d = digits_decimal n in
    digits_right s k (digits n) (digits_some n) (digits_tested (digits n) d.only) ∙ ap (λ m. value_as k (integer_of s m)) d.worth

no_sign : (k : Kind) (s : List ℕ) → All Digit s → number k s ≡ digits_value false k s
unfolding number
no_sign k [] a = refl
no_sign k (b ∷ s) a = rw (ne_eqb b 45 (λ e. omega (arith, a.0.0)))

number_natural : (k : Kind) (n : ℕ) → number k (integer (pos n)) ≡ value_as k (pos n)
unfolding integer
number_natural k n = no_sign k (digits n) (digits_decimal n).only ∙ digits_number false k n

number_minus : (k : Kind) (n : ℕ) → number k (integer (negsuc n)) ≡ value_as k (negsuc n)
unfolding number integer
number_minus k n = digits_number true k (suc n)

number_integer : (k : Kind) (z : ℤ) → number k (integer z) ≡ value_as k z
number_integer k (pos n) = number_natural k n
number_integer k (negsuc n) = number_minus k n

key_read : (z : ℤ) → SFits w64 z → number Key (integer z) ≡ Ok (turned z)
key_read z f = number_integer Key z ∙ rw (lt-ltb _ (2 ^ 63) f.sfits)

coin_read : (n : ℕ) → n ≤ any → number Coin (integer (pos n)) ≡ Ok n
coin_read n h = number_natural Coin n ∙ rw (le-leb n any h)

small_read : (n : ℕ) → n ≤ small → number Small (integer (pos n)) ≡ Ok n
small_read n h = number_natural Small n ∙ rw (le-leb n small h)

-- a line that begins with a name
named : (code : ℕ) (zs : List ℤ) → Solid (name_of code) → find names (name_of code) ≡ code
    → sense (words (line_after (name_of code) zs)) ≡ formed code (map integer zs)
unfolding sense
named code zs s f = rw (words_line (name_of code) zs s, f)

-- LAW: the text of a call says the call
pub call_sense : (call : Call) → Typed call → sense (words (text_of call)) ≡ numbers (numbers_of call)
unfolding name_of names kinds
call_sense (Lookup k) t = named 0 (k ∷ []) (solid_tested (name_of 0) refl refl refl) refl ∙ rw (key_read k t)
call_sense (Insert k v coin) t = named 1 (k ∷ v ∷ pos coin ∷ []) (solid_tested (name_of 1) refl refl refl) refl ∙ rw (key_read k t.0, key_read v t.1, coin_read coin (omega (arith, t.2)))
call_sense (Remove k) t = named 2 (k ∷ []) (solid_tested (name_of 2) refl refl refl) refl ∙ rw (key_read k t)
call_sense (HandOver node) t = named 3 (pos node.0 ∷ []) (solid_tested (name_of 3) refl refl refl) refl ∙ rw (small_read node.0 (omega (arith, t)))
call_sense (Ceil k) t = named 4 (k ∷ []) (solid_tested (name_of 4) refl refl refl) refl ∙ rw (key_read k t)
call_sense (Floor k) t = named 5 (k ∷ []) (solid_tested (name_of 5) refl refl refl) refl ∙ rw (key_read k t)
call_sense (Succ k) t = named 6 (k ∷ []) (solid_tested (name_of 6) refl refl refl) refl ∙ rw (key_read k t)
call_sense (Pred k) t = named 7 (k ∷ []) (solid_tested (name_of 7) refl refl refl) refl ∙ rw (key_read k t)
call_sense (Fast l r) t = named 8 (l ∷ r ∷ []) (solid_tested (name_of 8) refl refl refl) refl ∙ rw (key_read l t.0, key_read r t.1)
call_sense (Open l r) t = named 9 (l ∷ r ∷ []) (solid_tested (name_of 9) refl refl refl) refl ∙ rw (key_read l t.0, key_read r t.1)
call_sense (Step version room) t = named 10 (pos version.0 ∷ pos room ∷ []) (solid_tested (name_of 10) refl refl refl) refl ∙ rw (small_read version.0 (omega (arith, t.0)), small_read room (omega (arith, t.1)))
call_sense (Close version) t = named 11 (pos version.0 ∷ []) (solid_tested (name_of 11) refl refl refl) refl ∙ rw (small_read version.0 (omega (arith, t)))
call_sense Sweep t = named 12 ([]) (solid_tested (name_of 12) refl refl refl) refl
call_sense Tally t = named 13 ([]) (solid_tested (name_of 13) refl refl refl) refl

-- the words of a header
capacity_solid : Solid (name_of 14)
unfolding name_of names
capacity_solid = solid_tested (name_of 14) refl refl refl

start_solid : Solid start
unfolding start
start_solid = solid_tested start refl refl refl

header_words : (header : Header) → words (header_text header) ≡ name_of 14 ∷ integer (pos header.capacity) ∷ start ∷ integer (pos header.start.0) ∷ []
unfolding line_after
header_words header =
    let z = pos header.capacity in
    let last = spaced (pos header.start.0 ∷ []) ++ (10 ∷ []) in
    let rest = start ++ last in
    ap words (append_assoc (name_of 14 ++ spaced (z ∷ [])) (32 ∷ start) last ∙ append_assoc (name_of 14) (spaced (z ∷ [])) (32 ∷ rest) ∙ ap (λ s. name_of 14 ++ (32 ∷ (s ++ (32 ∷ rest)))) (append-nil (integer z)))
    ∙ words_then (name_of 14) 32 (integer z ++ (32 ∷ rest)) capacity_solid refl
    ∙ ap {B = List (List ℕ)} (λ r. name_of 14 ∷ r) (words_then (integer z) 32 rest (integer_solid z) refl)
    ∙ ap {B = List (List ℕ)} (λ r. name_of 14 ∷ integer z ∷ r) (words_line start (pos header.start.0 ∷ []) start_solid)

-- LAW: the text of a header says the header
pub header_sense : (header : Header) → TypedHeader header → sense (words (header_text header)) ≡ sense_of (Ok (Line.Header header))
unfolding name_of names start kinds sense
header_sense header t =
    ap sense (header_words header) ∙ rw (small_read header.capacity (omega (arith, t.0)), small_read header.start.0 (omega (arith, t.1)))

-- a call's code is below that of the header
code_below : (call : Call) → head_or (numbers_of call) 0 < 14
code_below (Lookup k) = omega arith
code_below (Insert k v coin) = omega arith
code_below (Remove k) = omega arith
code_below (HandOver node) = omega arith
code_below (Ceil k) = omega arith
code_below (Floor k) = omega arith
code_below (Succ k) = omega arith
code_below (Pred k) = omega arith
code_below (Fast l r) = omega arith
code_below (Open l r) = omega arith
code_below (Step version room) = omega arith
code_below (Close version) = omega arith
code_below Sweep = omega arith
code_below Tally = omega arith

no_header : (call : Call) (ns : List ℕ) → numbers (numbers_of call) ≡ numbers (14 ∷ ns) → ⊥
no_header call ns e = let q : numbers_of call ≡ 14 ∷ ns = cc in let h = ap (λ l. head_or l 0) q in omega (arith, code_below call)

-- LAW: two answers that say the same are equal
pub line_same : (a b : Result Line Misread) → sense_of a ≡ sense_of b → a ≡ b
line_same (Ok Line.Nothing) (Ok Line.Nothing) e = refl
line_same (Ok Line.Nothing) (Ok (Line.Header h)) e = absurd (let z : ◌≡◌ {A = ℕ} 0 1 = cc in omega arith)
line_same (Ok Line.Nothing) (Ok (Line.Call c)) e = absurd (let z : ◌≡◌ {A = ℕ} 0 1 = cc in omega arith)
line_same (Ok Line.Nothing) (Err m) e = absurd (let z : ◌≡◌ {A = ℕ} 0 1 = cc in omega arith)
line_same (Ok (Line.Header g)) (Ok Line.Nothing) e = absurd (let z : ◌≡◌ {A = ℕ} 0 1 = cc in omega arith)
line_same (Ok (Line.Header g)) (Ok (Line.Header h)) e =
    let q : g.capacity ≡ h.capacity = cc in
    let r : g.start.0 ≡ h.start.0 = cc in
    ap (λ x. Ok (Line.Header x)) (header_same g h (rw (q, r)))
line_same (Ok (Line.Header g)) (Ok (Line.Call c)) e = absurd (no_header c _ (sym e))
line_same (Ok (Line.Header g)) (Err m) e = absurd (let z : ◌≡◌ {A = ℕ} 0 1 = cc in omega arith)
line_same (Ok (Line.Call c)) (Ok Line.Nothing) e = absurd (let z : ◌≡◌ {A = ℕ} 0 1 = cc in omega arith)
line_same (Ok (Line.Call c)) (Ok (Line.Header h)) e = absurd (no_header c _ e)
line_same (Ok (Line.Call c)) (Ok (Line.Call d)) e = let q : numbers_of c ≡ numbers_of d = cc in ap (λ x. Ok (Line.Call x)) (numbers_same c d q)
line_same (Ok (Line.Call c)) (Err m) e = absurd (let z : ◌≡◌ {A = ℕ} 0 1 = cc in omega arith)
line_same (Err m) (Ok Line.Nothing) e = absurd (let z : ◌≡◌ {A = ℕ} 0 1 = cc in omega arith)
line_same (Err m) (Ok (Line.Header h)) e = absurd (let z : ◌≡◌ {A = ℕ} 0 1 = cc in omega arith)
line_same (Err m) (Ok (Line.Call c)) e = absurd (let z : ◌≡◌ {A = ℕ} 0 1 = cc in omega arith)
line_same (Err m) (Err n) e = let q : m.fault ≡ n.fault = cc in let p : m.word ≡ n.word = cc in ap₂ {C = Result Line Misread} (λ f w. Err (record { fault = f; word = w })) q p

-- what a writer wrote stands at the front
written_front : {text before after : List ℕ} {len : ℕ} → Writes text before after (Ok len) → take len after ≡ text
written_front {text} {before} {after} {len} w = let v = writes_length w in ap (take len) v.buffer ∙ take_at text (drop (length text) before) len (sym v.answer)

-- LAW: what write_call wrote, read_line reads: the same call
pub read_write_call : (call : Call) → Typed call → {before after : List ℕ} {len : ℕ} → Writes (text_of call) before after (Ok len)
    → (r : Result Line Misread) → sense_of r ≡ sense (words (take len after)) → r ≡ Ok (Line.Call call)
read_write_call call t w r e = line_same r (Ok (Line.Call call)) (e ∙ ap (λ s. sense (words s)) (written_front w) ∙ call_sense call t)

-- LAW: the same of a header
pub read_write_header : (header : Header) → TypedHeader header → {before after : List ℕ} {len : ℕ} → Writes (header_text header) before after (Ok len)
    → (r : Result Line Misread) → sense_of r ≡ sense (words (take len after)) → r ≡ Ok (Line.Header header)
read_write_header header t w r e = line_same r (Ok (Line.Header header)) (e ∙ ap (λ s. sense (words s)) (written_front w) ∙ header_sense header t)
