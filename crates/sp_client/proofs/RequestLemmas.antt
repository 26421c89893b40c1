-- A request is read back from its words, so no line is of two requests.
use Rattle.std.proofs.Common.{◌≡◌, ◌<◌, ℕ, ◌^◌, inl, inr, Bool, List, [], ◌∷◌, length, get_or, nat_eq, refl, sym, ap, ◌∙◌, arith}
use Rattle.std.specs.Prelude.{Result, Ok, Err, codes, if◌then◌else◌}
use Rattle.std.specs.Cmp.Lexicographic.{pointwise}
use Rattle.std.specs.Fmt.{decimal}
use Rattle.std.specs.Str.Parse.{digits_value}
use Rattle.std.proofs.lemmas.Bool.{cases_lt}
use Rattle.std.proofs.lemmas.Fmt.{decimal_is_IsNumeral}
use Rattle.std.proofs.lemmas.List.{get_or_past}
use Rattle.hex.specs.Hex.{IsBytes, decode_of}
use Rattle.hex.specs.declared.error.FromHexError.{FromHexError}
use Rattle.hex.proofs.HexLemmas.{decode_of-encode_lower}
use Rattle.sp_base.specs.Spelling.{AreBytes}
use Rattle.sp_base.specs.declared.id.NodeId.{NodeId}
use Rattle.sp_text.specs.Spelling.{Word, hex_word, words_of}
use Rattle.sp_client.specs.declared.request.Command.{Command}
use Rattle.sp_client.specs.declared.request.Command.TheVariants as commands
use Rattle.sp_client.specs.declared.request.Request.{Request}
use Rattle.sp_client.specs.Requests.{IsCommand, IsInRange, IsRequest, RequestsHaveTheirOwnLine, SpelledRequestsAreRead, fields, name, request_words}
use Rattle.sp_client.proofs.LineLemmas.{line_is_short, line_words}

-- ---- back from words

abbrev word : List Word → ℕ → Word
word words place = get_or words place []

abbrev value : Word → ℕ
value w = digits_value 10 w

abbrev node : Word → NodeId
node w = record { 0 = value w }

abbrev or_none : Result (List ℕ) FromHexError → List ℕ
or_none (Ok bytes) = bytes
or_none (Err e) = []

abbrev bytes_of : Word → List ℕ
bytes_of w = or_none (decode_of w)

abbrev is : Word → List ℕ → Bool
is w literal = pointwise nat_eq w literal

-- what a name and the words after it say
abbrev said : Word → List Word → Command
said w rest =
    if is w (codes "open") then commands.Open
    else (if is w (codes "listen") then commands.Listen
    else (if is w (codes "send") then commands.Send (node (word rest 0)) (bytes_of (word rest 1))
    else (if is w (codes "sendprio") then
    commands.SendPrio (node (word rest 0)) (value (word rest 1)) (value (word rest 2)) (value (word rest 3)) (bytes_of (word rest 4))
    else (if is w (codes "take") then commands.Take (node (word rest 0))
    else (if is w (codes "takeprio") then commands.TakePrio
    else (if is w (codes "ksend") then commands.SendKrel (node (word rest 0)) (value (word rest 1)) (bytes_of (word rest 2))
    else (if is w (codes "ktake") then commands.TakeKrel (node (word rest 0))
    else (if is w (codes "weight") then commands.Weight (node (word rest 0)) (value (word rest 1))
    else commands.Close))))))))

value_back : (n : ℕ) → n < 2 ^ 64 → value (decimal n) ≡ n
value_back n small = (decimal_is_IsNumeral n small).1

are_bytes : (bs : List ℕ) → AreBytes bs → IsBytes bs
are_bytes bs each i = elim (cases_lt i (length bs)) [ inl inside ↦ each i 0 inside | inr past ↦ rw (get_or_past bs i 0 past) (omega arith) ]

bytes_back : (bs : List ℕ) → AreBytes bs → bytes_of (hex_word bs) ≡ bs
bytes_back [] are = refl
bytes_back (b ∷ bs) are = ap or_none (decode_of-encode_lower (b ∷ bs) (are_bytes (b ∷ bs) are))

said_back : (c : Command) → IsCommand c → said (name c) (fields c) ≡ c
said_back commands.Open range = refl
said_back commands.Listen range = refl
said_back (commands.Send to payload) range =
    ap (λ (n : ℕ). commands.Send (record { 0 = n }) (bytes_of (hex_word payload))) (value_back to.0 (omega (arith, range.0)))
    ∙ ap (λ (bs : List ℕ). commands.Send to bs) (bytes_back payload range.1.bytes)
said_back (commands.SendPrio to prio expiry paths payload) range =
    ap (λ (n : ℕ). commands.SendPrio (record { 0 = n }) (value (decimal prio)) (value (decimal expiry)) (value (decimal paths)) (bytes_of (hex_word payload)))
    (value_back to.0 (omega (arith, range.0)))
    ∙ ap (λ (n : ℕ). commands.SendPrio to n (value (decimal expiry)) (value (decimal paths)) (bytes_of (hex_word payload)))
    (value_back prio (omega (arith, range.1.1)))
    ∙ ap (λ (n : ℕ). commands.SendPrio to prio n (value (decimal paths)) (bytes_of (hex_word payload))) (value_back expiry range.2)
    ∙ ap (λ (n : ℕ). commands.SendPrio to prio expiry n (bytes_of (hex_word payload))) (value_back paths (omega (arith, range.3)))
    ∙ ap (λ (bs : List ℕ). commands.SendPrio to prio expiry paths bs) (bytes_back payload range.4.bytes)
said_back (commands.Take from) range = ap (λ (n : ℕ). commands.Take (record { 0 = n })) (value_back from.0 (omega (arith, range)))
said_back commands.TakePrio range = refl
said_back (commands.SendKrel to paths payload) range =
    ap (λ (n : ℕ). commands.SendKrel (record { 0 = n }) (value (decimal paths)) (bytes_of (hex_word payload))) (value_back to.0 (omega (arith, range.0)))
    ∙ ap (λ (n : ℕ). commands.SendKrel to n (bytes_of (hex_word payload))) (value_back paths (omega (arith, range.1.1)))
    ∙ ap (λ (bs : List ℕ). commands.SendKrel to paths bs) (bytes_back payload range.2.bytes)
said_back (commands.TakeKrel from) range = ap (λ (n : ℕ). commands.TakeKrel (record { 0 = n })) (value_back from.0 (omega (arith, range)))
said_back (commands.Weight peer weight) range =
    ap (λ (n : ℕ). commands.Weight (record { 0 = n }) (value (decimal weight))) (value_back peer.0 (omega (arith, range.0)))
    ∙ ap (λ (n : ℕ). commands.Weight peer n) (value_back weight (omega (arith, range.1.1)))
said_back commands.Close range = refl

abbrev of_parts : ℕ → Command → Request
of_parts number command = record { number = number; command = command }

-- the request of these words
abbrev asked : List Word → Request
asked [] = record { number = 0; command = commands.Close }
asked (n ∷ []) = record { number = 0; command = commands.Close }
asked (n ∷ w ∷ rest) = record { number = value n; command = said w rest }

asked_back : (r : Request) → IsInRange r → asked (request_words r) ≡ r
asked_back r range =
    ap (λ (n : ℕ). record { number = n; command = said (name r.command) (fields r.command) }) (value_back r.number (omega (arith, range.number.1)))
    ∙ ap (λ (c : Command). record { number = r.number; command = c }) (said_back r.command range.command)

-- ---- both ways

pub spelled_requests_are_read : SpelledRequestsAreRead
spelled_requests_are_read r range = record { size = line_is_short r range; range = range; spelling = refl }

of_line : (bytes : List ℕ) (r : Request) → IsRequest bytes r → asked (words_of bytes) ≡ r
of_line bytes r is_r = ap (λ (bs : List ℕ). asked (words_of bs)) is_r.spelling ∙ ap asked (line_words r is_r.range) ∙ asked_back r is_r.range

pub requests_have_their_own_line : RequestsHaveTheirOwnLine
requests_have_their_own_line bytes r s is_r is_s = sym (of_line bytes r is_r) ∙ of_line bytes s is_s
