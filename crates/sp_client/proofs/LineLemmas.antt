-- A request's words are the words of its line, and its line is short enough.
use Rattle.std.proofs.Common.{◌≡◌, ◌<◌, ◌≤◌, ℕ, ◌+◌, ◌^◌, List, [], ◌∷◌, length, refl, sym, ap, ◌∙◌, arith}
use Rattle.std.specs.Prelude.{All, Option, Some, None, Result, Ok, Err, IfOk, codes, ⊤}
use Rattle.std.specs.List.{join_with_byte}
use Rattle.std.specs.Fmt.{decimal}
use Rattle.std.proofs.lemmas.Fmt.{length-decimal-le}
use Rattle.std.proofs.lemmas.List.{length-append}
use Rattle.std.proofs.lemmas.List.Elements.{All-cons, All-nil}
use Rattle.sp_base.specs.Finds.{Finds}
use Rattle.sp_text.specs.Spelling.{IsOneWord, Word, words_of}
use Rattle.sp_text.proofs.Separators.{IsOneWord-decimal, IsOneWord-from_test, IsOneWord-hex_word}
use Rattle.sp_text.proofs.WordLemmas.{join-words_of, words_of-join}
use Rattle.sp_client.specs.declared.request.Command.{Command}
use Rattle.sp_client.specs.declared.request.Command.TheVariants as commands
use Rattle.sp_client.specs.declared.request.Request.{Request}
use Rattle.sp_client.specs.Requests.{IsCommand, IsInRange, IsRequest, fields, name, request_line, request_words}
use Rattle.sp_client.proofs.PayloadLemmas.{payload_word}

-- ---- no word of a request has a space

name_is_word : (c : Command) → IsOneWord (name c)
name_is_word commands.Open = IsOneWord-from_test (codes "open") refl
name_is_word commands.Listen = IsOneWord-from_test (codes "listen") refl
name_is_word (commands.Send to payload) = IsOneWord-from_test (codes "send") refl
name_is_word (commands.SendPrio to prio expiry paths payload) = IsOneWord-from_test (codes "sendprio") refl
name_is_word (commands.Take from) = IsOneWord-from_test (codes "take") refl
name_is_word commands.TakePrio = IsOneWord-from_test (codes "takeprio") refl
name_is_word (commands.SendKrel to paths payload) = IsOneWord-from_test (codes "ksend") refl
name_is_word (commands.TakeKrel from) = IsOneWord-from_test (codes "ktake") refl
name_is_word (commands.Weight peer weight) = IsOneWord-from_test (codes "weight") refl
name_is_word commands.Close = IsOneWord-from_test (codes "close") refl

abbrev AreWords : List Word → Type 0
AreWords [] = ⊤
AreWords (w ∷ ws) = IsOneWord w × AreWords ws

each_is_word : (words : List Word) → AreWords words → All IsOneWord words
each_is_word [] are = All-nil IsOneWord
each_is_word (w ∷ ws) are = All-cons IsOneWord w ws are.0 (each_is_word ws are.1)

fields_are_words : (c : Command) → IsCommand c → AreWords (fields c)
fields_are_words commands.Open is = tt
fields_are_words commands.Listen is = tt
fields_are_words (commands.Send to payload) is = (IsOneWord-decimal to.0 (omega (arith, is.0)), (IsOneWord-hex_word payload, tt))
fields_are_words (commands.SendPrio to prio expiry paths payload) is = (
  IsOneWord-decimal to.0 (omega (arith, is.0)),
  (
    IsOneWord-decimal prio (omega (arith, is.1.1)),
    (
      IsOneWord-decimal expiry is.2,
      (IsOneWord-decimal paths (omega (arith, is.3)), (IsOneWord-hex_word payload, tt)),
    ),
  ),
)
fields_are_words (commands.Take from) is = (IsOneWord-decimal from.0 (omega (arith, is)), tt)
fields_are_words (commands.SendKrel to paths payload) is =
    (IsOneWord-decimal to.0 (omega (arith, is.0)), (IsOneWord-decimal paths (omega (arith, is.1.1)), (IsOneWord-hex_word payload, tt)))
fields_are_words (commands.TakeKrel from) is = (IsOneWord-decimal from.0 (omega (arith, is)), tt)
fields_are_words commands.TakePrio is = tt
fields_are_words (commands.Weight peer weight) is = (IsOneWord-decimal peer.0 (omega (arith, is.0)), (IsOneWord-decimal weight (omega (arith, is.1.1)), tt))
fields_are_words commands.Close is = tt

-- the words of a request's line are its words
pub line_words : (r : Request) → IsInRange r → words_of (request_line r) ≡ request_words r
line_words r is =
    words_of-join (request_words r) (omega arith)
    (each_is_word (request_words r) (IsOneWord-decimal r.number (omega (arith, is.number.1)), (name_is_word r.command, fields_are_words r.command is.command)))

-- ---- what is read of a datagram's words is read of the datagram

pub read_of_words : {E : Type 0} (bytes : List ℕ) (words : List Word) (read : Result (Option Request) E) → length bytes ≤ 4096 → words ≡ words_of bytes
    → IfOk read (Finds (λ r. IsInRange r × (words ≡ request_words r))) → IfOk read (Finds (IsRequest bytes))
read_of_words bytes words (Ok (Some r)) short of found = record {
  size = short;
  range = found.0;
  spelling = sym (join-words_of bytes) ∙ ap (λ (ws : List Word). join_with_byte 32 ws) (sym of ∙ found.1);
}
read_of_words bytes words (Ok None) short of none = λ r is. none r (is.range, of ∙ ap words_of is.spelling ∙ line_words r is.range)
read_of_words bytes words (Err e) short of none = tt

-- ---- a line is short

-- what words take with a space before each
abbrev total : List Word → ℕ
total [] = 0
total (w ∷ ws) = 1 + length w + total ws

joined : (w : Word) (ws : List Word) → length (join_with_byte 32 (w ∷ ws)) ≡ length w + total ws
joined w [] = omega arith
joined w (v ∷ ws) = omega (arith, length-append w (32 ∷ join_with_byte 32 (v ∷ ws)), joined v ws)

number_length : (n : ℕ) → n < 2 ^ 64 → length (decimal n) ≤ 20
number_length n small = length-decimal-le 20 n (omega arith) (omega arith) small

fields_total : (c : Command) → IsCommand c → length (name c) + total (fields c) ≤ 2200
fields_total commands.Open is = omega arith
fields_total commands.Listen is = omega arith
fields_total (commands.Send to payload) is = omega (arith, number_length to.0 (omega (arith, is.0)), payload_word payload is.1.short)
fields_total (commands.SendPrio to prio expiry paths payload) is =
    omega (
      arith,
      number_length to.0 (omega (arith, is.0)),
      number_length prio (omega (arith, is.1.1)),
      number_length expiry is.2,
      number_length paths (omega (arith, is.3)),
      payload_word payload is.4.short,
    )
fields_total (commands.Take from) is = omega (arith, number_length from.0 (omega (arith, is)))
fields_total (commands.SendKrel to paths payload) is =
    omega (arith, number_length to.0 (omega (arith, is.0)), number_length paths (omega (arith, is.1.1)), payload_word payload is.2.short)
fields_total (commands.TakeKrel from) is = omega (arith, number_length from.0 (omega (arith, is)))
fields_total commands.TakePrio is = omega arith
fields_total (commands.Weight peer weight) is = omega (arith, number_length peer.0 (omega (arith, is.0)), number_length weight (omega (arith, is.1.1)))
fields_total commands.Close is = omega arith

pub line_is_short : (r : Request) → IsInRange r → length (request_line r) ≤ 4096
line_is_short r is =
    omega (
      arith,
      joined (decimal r.number) (name r.command ∷ fields r.command),
      number_length r.number (omega (arith, is.number.1)),
      fields_total r.command is.command,
    )
