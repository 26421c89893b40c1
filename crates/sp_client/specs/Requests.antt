-- A request of a client: one line without a newline, of words one space apart.
--
--     K open                            K       1 to 2^63 - 1: the client's own number of the request
--     K listen
--     K send D HEX                      D       0 to 255: a node
--     K sendprio D P EXPIRY N HEX       P       1 to 10; EXPIRY 0 to 2^64 - 1; N 0 to 8
--     K take S                          S       0 to 255: a node
--     K takeprio
--     K ksend D N HEX                   N       1 to 8
--     K ktake S
--     K weight V W                      V       0 to 255: a node; W 1 to 1,000,000
--     K close                           HEX     at most 1,024 bytes, two digits each, in lower case, and a dash for none
use Rattle.std.specs.Prelude.{ℕ, ◌≡◌, ◌≤◌, ◌<◌, ◌^◌, List, [], ◌∷◌, length, codes, ⊤}
use Rattle.std.specs.List.{join_with_byte}
use Rattle.std.specs.Fmt.{decimal}
use Rattle.sp_base.specs.Spelling.{AreBytes}
use Rattle.sp_base.specs.declared.limits.TheConstants.{MAX_PAYLOAD_BYTES, MAX_PRIORITY, MAX_WEIGHT}
use Rattle.sp_text.specs.Spelling.{Word, hex_word}
use Rattle.sp_client.specs.declared.limits.TheConstants.{MAX_PATHS, MAX_REQUEST_BYTES, MAX_REQUEST_NUMBER}
use Rattle.sp_client.specs.declared.request.Command.{Command}
use Rattle.sp_client.specs.declared.request.Command.TheVariants as commands
use Rattle.sp_client.specs.declared.request.Request.{Request}

-- ---- spelling

abbrev pub name : Command → Word
name commands.Open = codes "open"
name commands.Listen = codes "listen"
name (commands.Send to payload) = codes "send"
name (commands.SendPrio to prio expiry paths payload) = codes "sendprio"
name (commands.Take from) = codes "take"
name commands.TakePrio = codes "takeprio"
name (commands.SendKrel to paths payload) = codes "ksend"
name (commands.TakeKrel from) = codes "ktake"
name (commands.Weight peer weight) = codes "weight"
name commands.Close = codes "close"

-- the words of a command behind its name
abbrev pub fields : Command → List Word
fields (commands.Send to payload) = decimal to.0 ∷ hex_word payload ∷ []
fields (commands.SendPrio to prio expiry paths payload) = decimal to.0 ∷ decimal prio ∷ decimal expiry ∷ decimal paths ∷ hex_word payload ∷ []
fields (commands.Take from) = decimal from.0 ∷ []
fields (commands.SendKrel to paths payload) = decimal to.0 ∷ decimal paths ∷ hex_word payload ∷ []
fields (commands.TakeKrel from) = decimal from.0 ∷ []
fields (commands.Weight peer weight) = decimal peer.0 ∷ decimal weight ∷ []
fields _ = []

-- the words of a request
abbrev pub request_words : Request → List Word
request_words r = decimal r.number ∷ name r.command ∷ fields r.command

-- the line of a request
abbrev pub request_line : Request → List ℕ
request_line r = join_with_byte 32 (request_words r)

-- ---- ranges: a row for each field

-- a number in this range
abbrev pub IsIn : ℕ → ℕ → ℕ → Type 0
IsIn low high n = (low ≤ n) × (n ≤ high)

-- any byte names a node; whether that node is a right end isn't said by the request's form
abbrev pub IsNode : ℕ → Type 0
IsNode id = id ≤ 255

-- a payload in its range
pub record IsPayload (payload : List ℕ) : Type 0 where
  pub short : length payload ≤ MAX_PAYLOAD_BYTES
  pub bytes : AreBytes payload

-- a command with fields in their ranges
abbrev pub IsCommand : Command → Type 0
IsCommand (commands.Send to payload) = IsNode to.0 × IsPayload payload
IsCommand (commands.SendPrio to prio expiry paths payload) =
    IsNode to.0
    × IsIn 1 MAX_PRIORITY prio
    × (expiry < 2 ^ 64)
    × (paths ≤ MAX_PATHS)
    × IsPayload payload
IsCommand (commands.Take from) = IsNode from.0
IsCommand (commands.SendKrel to paths payload) = IsNode to.0 × IsIn 1 MAX_PATHS paths × IsPayload payload
IsCommand (commands.TakeKrel from) = IsNode from.0
IsCommand (commands.Weight peer weight) = IsNode peer.0 × IsIn 1 MAX_WEIGHT weight
IsCommand _ = ⊤

-- a request in its ranges
pub record IsInRange (r : Request) : Type 0 where
  pub number : IsIn 1 MAX_REQUEST_NUMBER r.number
  pub command : IsCommand r.command

-- ---- reading

-- the datagram is this request, and no other one
pub record IsRequest (bytes : List ℕ) (r : Request) : Type 0 where
  pub size : length bytes ≤ MAX_REQUEST_BYTES
  pub range : IsInRange r
  pub spelling : bytes ≡ request_line r

-- each request has a line, which is short enough to be a datagram
abbrev pub SpelledRequestsAreRead : Type 0
SpelledRequestsAreRead = (r : Request) → IsInRange r → IsRequest (request_line r) r

-- and no line is of two requests
abbrev pub RequestsHaveTheirOwnLine : Type 0
RequestsHaveTheirOwnLine = (bytes : List ℕ) (r s : Request) → IsRequest bytes r → IsRequest bytes s → r ≡ s

-- the words after the number are those of this command
pub record IsNamed (word : Word) (words : List Word) (c : Command) : Type 0 where
  pub range : IsCommand c
  pub name : word ≡ name c
  pub fields : words ≡ fields c
