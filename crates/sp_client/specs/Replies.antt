-- The reply to a request: its number, and the answer's words. A datagram that is no request gets the number 0.
--
--     K opened            K sessionsfull     K nosession       K badnumber LAST     0 badrequest
--     K listening         K busy PORT        K notlistening
--     K accepted SEQ      K badend           K full BASE HAVE  K expired NOW        K nopaths FOUND
--     K low MIN           K spent INDEX      K notreserved BOUND
--     K payload HEX       K payload S SEQ HEX                  K empty              K closed
--     K busy N            to a ksend: messages on N paths wait
use Rattle.std.specs.Prelude.{ℕ, ◌≤◌, List, [], ◌∷◌, ◌++◌, length, map, codes, ⊤}
use Rattle.std.specs.List.{flat_map, join_with_byte}
use Rattle.std.specs.Fmt.{decimal}
use Rattle.sp_base.specs.declared.limits.TheConstants.{MAX_PAYLOAD_BYTES}
use Rattle.sp_text.specs.Spelling.{Word, hex_word}
use Rattle.sp_client.specs.declared.answer.Answer.{Answer}
use Rattle.sp_client.specs.declared.answer.Answer.TheVariants as answers

abbrev pub answer_name : Answer → Word
answer_name answers.BadRequest = codes "badrequest"
answer_name answers.Opened = codes "opened"
answer_name answers.SessionsFull = codes "sessionsfull"
answer_name answers.NoSession = codes "nosession"
answer_name (answers.BadNumber last) = codes "badnumber"
answer_name answers.Listening = codes "listening"
answer_name (answers.Busy port) = codes "busy"
answer_name (answers.BusyPaths paths) = codes "busy"
answer_name answers.NotListening = codes "notlistening"
answer_name (answers.Accepted seq) = codes "accepted"
answer_name answers.BadEnd = codes "badend"
answer_name (answers.Full base have) = codes "full"
answer_name (answers.Expired now) = codes "expired"
answer_name (answers.NoPaths found) = codes "nopaths"
answer_name (answers.Low min) = codes "low"
answer_name (answers.Spent index) = codes "spent"
answer_name (answers.NotReserved bound) = codes "notreserved"
answer_name (answers.Payload payload) = codes "payload"
answer_name (answers.Message src seq payload) = codes "payload"
answer_name answers.Empty = codes "empty"
answer_name answers.Closed = codes "closed"

-- the numbers of an answer
abbrev pub numbers : Answer → List ℕ
numbers (answers.BadNumber last) = last ∷ []
numbers (answers.Busy port) = port ∷ []
numbers (answers.BusyPaths paths) = paths ∷ []
numbers (answers.Accepted seq) = seq ∷ []
numbers (answers.Full base have) = base ∷ have ∷ []
numbers (answers.Expired now) = now ∷ []
numbers (answers.NoPaths found) = found ∷ []
numbers (answers.Low min) = min ∷ []
numbers (answers.Spent index) = index ∷ []
numbers (answers.NotReserved bound) = bound ∷ []
numbers (answers.Message src seq payload) = src.0 ∷ seq ∷ []
numbers _ = []

-- the bytes of an answer, where it has any
abbrev pub payload_words : Answer → List Word
payload_words (answers.Payload payload) = hex_word payload ∷ []
payload_words (answers.Message src seq payload) = hex_word payload ∷ []
payload_words _ = []

-- the words of an answer
abbrev pub answer_words : Answer → List Word
answer_words answer = answer_name answer ∷ map decimal (numbers answer) ++ payload_words answer

-- the reply to a request
abbrev pub reply_line : ℕ → Answer → List ℕ
reply_line number answer = join_with_byte 32 (decimal number ∷ answer_words answer)

-- words, each after a space
abbrev pub after_spaces : List Word → List ℕ
after_spaces words = flat_map (λ w. 32 ∷ w) words

-- the reply to a datagram that is no request
abbrev pub bad_reply : List ℕ
bad_reply = codes "0 badrequest"

-- the bytes of an answer are no more than those of a message
abbrev pub IsShort : Answer → Type 0
IsShort (answers.Payload payload) = length payload ≤ MAX_PAYLOAD_BYTES
IsShort (answers.Message src seq payload) = length payload ≤ MAX_PAYLOAD_BYTES
IsShort _ = ⊤
