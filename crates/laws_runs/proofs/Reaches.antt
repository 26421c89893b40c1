-- What reaches a node is in its ranges, since the schedule is and all frames are bytes.
use Rattle.std.proofs.Common.{◌≡◌, ◌<◌, ◌≤◌, ℕ, zero, suc, ◌-◌, ◌^◌, Bool, true, false, cond, List}
use Rattle.std.proofs.Common.{[], ◌∷◌, ◌++◌, length, Option, Some, None, refl, sym, subst, arith}
use Rattle.std.specs.Prelude.{◌==◌, bit_xor, nat_lt, option_map, slice_get, slice_index_or, unwrap_or}
use Rattle.std.specs.Option.{option_and_then}
use Rattle.std.proofs.lemmas.List.Elements.{All-append, All-cons, All-head, All-nil, All-set, All-tail}
use Rattle.std.proofs.lemmas.Nat.{xor_of_8}
use Rattle.sp_base.specs.Spelling.{AreBytes}
use Rattle.sp_base.specs.declared.id.NodeId.{NodeId}
use Rattle.sp_frame.specs.Sections.{Contents, with_document}
use Rattle.sp_msg.specs.Bodies.{payload_of}
use Rattle.sp_msg.specs.declared.body.Body.{Body}
use Rattle.sp_msg.specs.declared.body.Body.TheVariants as bodies
use Rattle.sp_msg.specs.declared.kept.Kept.{Kept}
use Rattle.sp_rules.specs.Arts.{Arts}
use Rattle.sp_rules.specs.Node.{NodeState, link_in}
use Rattle.sp_rules.specs.Steps as steps
use Rattle.sp_rules.specs.Steps.{Input}
use Rattle.laws_node.specs.Asked.{payload_in}
use Rattle.laws_node.specs.Inputs.{InputFits}
use Rattle.sp_rules.specs.declared.lives.Life.{Life}
use Rattle.sp_runs.specs.Inputs.{crafted_contents, crafted_document, crafted_frame, crafted_head, crafted_object, dated, flipped, handed_out, input_of}
use Rattle.sp_runs.specs.Inputs.{last_weights, may_sign, object_alone, slot_alone}
use Rattle.sp_runs.specs.Runs.{AreFields}
use Rattle.sp_runs.specs.Settings.{Setting, SettingFits}
use Rattle.sp_runs.specs.Worlds.{Crafted, Direction, World, crafts, frame_in, frames_in}
use Rattle.sp_schedule_crafts.specs.Objects.{body_of}
use Rattle.sp_schedule_events.specs.Documents.{with_list}
use Rattle.sp_schedule_events.specs.declared.event.Event.{Event}
use Rattle.sp_schedule_events.specs.declared.event.Event.TheVariants as events
use Rattle.laws_runs.specs.Premises.{AreOfBytes, Carries, IsOfBytes, IsPlain}

-- ---- a frame that was made comes

pub record Came (ds : List Direction) (u v : NodeId) (number : ℕ) (take : List ℕ → Input) (input : Input) : Type 0 where
  pub bytes : List ℕ
  pub place : ℕ
  pub is : input ≡ take bytes
  pub there : slice_get (frames_in ds u v) place ≡ Some (Some bytes)

-- a frame that reaches a node came in its direction
pub came : (ds : List Direction) (u v : NodeId) (number : ℕ) (take : List ℕ → Input) (input : Input) → option_map take (frame_in ds u v number) ≡ Some input
    → Came ds u v number take input
came ds u v zero take input e = absurd cc
came ds u v (suc before) take input e = go (slice_get (frames_in ds u v) before) refl e
  where
    go : (o : Option (Option (List ℕ))) → slice_get (frames_in ds u v) before ≡ o → option_map take (option_and_then (λ frame. frame) o) ≡ Some input
        → Came ds u v (suc before) take input
    go None at e = absurd cc
    go (Some None) at e = absurd cc
    go (Some (Some bytes)) at e = record { bytes = bytes; place = before; is = cc; there = at }

-- ---- bytes

small : (bit : ℕ) → bit ≤ 7 → 2 ^ bit < 2 ^ 8
small zero most = omega arith
small (suc zero) most = omega arith
small (suc (suc zero)) most = omega arith
small (suc (suc (suc zero))) most = omega arith
small (suc (suc (suc (suc zero)))) most = omega arith
small (suc (suc (suc (suc (suc zero))))) most = omega arith
small (suc (suc (suc (suc (suc (suc zero)))))) most = omega arith
small (suc (suc (suc (suc (suc (suc (suc zero))))))) most = omega arith
small (suc (suc (suc (suc (suc (suc (suc (suc bit)))))))) most = absurd (omega (arith, most))

a_byte : (bytes : List ℕ) (i : ℕ) → AreBytes bytes → slice_index_or bytes i 0 < 2 ^ 8
a_byte [] i are = omega arith
a_byte (b ∷ bytes) zero are = let first = All-head (λ (x : ℕ). x < 256) b bytes are in omega (arith, first)
a_byte (b ∷ bytes) (suc i) are = a_byte bytes i (All-tail (λ (x : ℕ). x < 256) b bytes are)

flip_bytes : (back bit : ℕ) (bytes : List ℕ) → bit ≤ 7 → AreBytes bytes → AreBytes (flipped back bit bytes)
flip_bytes back bit bytes most are =
    let i = length bytes - back in
    let new = bit_xor (slice_index_or bytes i 0) (2 ^ bit) in
    let fits : new < 2 ^ 8 = xor_of_8 (slice_index_or bytes i 0) (2 ^ bit) (a_byte bytes i are) (small bit most) in
    All-set (λ (x : ℕ). x < 256) bytes i new (omega (arith, fits)) are

-- ---- a crafted frame

pub dated_payload : (lives : List Life) (body : Body) → payload_of (dated lives body) ≡ payload_of body
dated_payload lives (bodies.Prio p) = refl
dated_payload lives (bodies.Rel r) = refl
dated_payload lives (bodies.Ack a) = refl
dated_payload lives (bodies.Weight w) = refl
dated_payload lives (bodies.Krel r) = refl
dated_payload lives (bodies.Kack a) = refl
dated_payload lives (bodies.Epoch e) = refl

one_object : (lives : List Life) (o : Kept) (body : Body) → o.body ≡ body → IsOfBytes o → AreOfBytes (object_alone lives body o)
one_object lives o (bodies.Prio p) is of = All-cons IsOfBytes o [] of (All-nil IsOfBytes)
one_object lives o (bodies.Rel r) is of = All-cons IsOfBytes o [] of (All-nil IsOfBytes)
one_object lives o (bodies.Ack a) is of = All-cons IsOfBytes o [] of (All-nil IsOfBytes)
one_object lives o (bodies.Weight w) is of = All-cons IsOfBytes o [] of (All-nil IsOfBytes)
one_object lives o (bodies.Krel r) is of = All-cons IsOfBytes o [] of (All-nil IsOfBytes)
one_object lives o (bodies.Kack a) is of = All-cons IsOfBytes o [] of (All-nil IsOfBytes)
one_object lives o (bodies.Epoch e) is of = All-nil IsOfBytes

plain_alone : (lives : List Life) (body : Body) (o : Kept) → IsPlain (object_alone lives body o)
plain_alone lives (bodies.Prio p) o = record { document = refl; probe = refl }
plain_alone lives (bodies.Rel r) o = record { document = refl; probe = refl }
plain_alone lives (bodies.Ack a) o = record { document = refl; probe = refl }
plain_alone lives (bodies.Weight w) o = record { document = refl; probe = refl }
plain_alone lives (bodies.Krel r) o = record { document = refl; probe = refl }
plain_alone lives (bodies.Kack a) o = record { document = refl; probe = refl }
plain_alone lives (bodies.Epoch e) o = record { document = refl; probe = refl }

under_tag : (format : ℕ) (arts : Arts) (n : NodeState) (c : NodeId) (s : Contents) → Carries format arts → AreBytes (arts.frame (crafted_head n c) s)
    → AreBytes (crafted_frame arts n c s)
under_tag format arts n c s carries are =
    All-append (λ (b : ℕ). b < 256) (arts.frame (crafted_head n c) s) (arts.tag (link_in n c).key (arts.frame (crafted_head n c) s))
    are (carries.tags (link_in n c).key (arts.frame (crafted_head n c) s))

crafted_bytes : (format : ℕ) (arts : Arts) (n : NodeState) (c : NodeId) (s : Contents) → Carries format arts → IsPlain s → AreOfBytes s
    → AreBytes (crafted_frame arts n c s)
crafted_bytes format arts n c s carries none of = under_tag format arts n c s carries (carries.frames (crafted_head n c) s none of)

-- ---- a crafted document

-- what is signed of a document is bytes
unsigned_bytes : (arts : Arts) (x : Setting) → SettingFits arts x → (version : ℕ) (weights : List ℕ) → AreBytes (x.unsigned version weights)
unsigned_bytes arts x fits version weights = fits.unsigned version weights

document_bytes : (arts : Arts) (x : Setting) (crafted : List Crafted) (key version : ℕ) (weights : List ℕ) → SettingFits arts x
    → Carries x.topology.format arts → AreBytes (crafted_document arts x crafted key version weights)
document_bytes arts x crafted key version weights fits carries = go (key == 0)
  where
    unsigned : List ℕ
    unsigned = x.unsigned version weights

    signature : List ℕ
    signature = arts.sign x.topology.height (x.seed key) (crafts crafted (record { 0 = key })) unsigned

    go : (t : Bool) → AreBytes (cond t (x.document version weights) (unsigned ++ signature))
    go true = (fits.room version weights).0
    go false = All-append (λ (b : ℕ). b < 256) unsigned signature (unsigned_bytes arts x fits version weights)
        (carries.signatures x.topology.height (x.seed key) (crafts crafted (record { 0 = key })) unsigned)

-- ---- all events

no_bytes : AreBytes []
no_bytes = All-nil (λ (b : ℕ). b < 256)

abbrev pub FramesAreBytes : World → Type 0
FramesAreBytes w = (u v : NodeId) (k : ℕ) (bytes : List ℕ) → slice_get (frames_in w.directions u v) k ≡ Some (Some bytes) → AreBytes bytes

same_input : (a b : Input) → Some a ≡ Some b → a ≡ b
same_input a b e = cc

pub input_fits : (arts : Arts) (x : Setting) (es : List Event) (w : World) (n : NodeState) (e : Event) (input : Input) → SettingFits arts x
    → Carries x.topology.format arts → FramesAreBytes w → AreFields x es e
    → input_of arts x w n e ≡ Some input → InputFits input
input_fits arts x es w n (events.Rel s d payload) input fits carries are range reaches = subst InputFits (same_input _ input reaches) range.2
input_fits arts x es w n (events.Prio s d prio expiry paths payload) input fits carries are range reaches =
    subst InputFits (same_input _ input reaches) (range.2, range.3, range.4, range.6)
input_fits arts x es w n (events.Krel s d paths payload) input fits carries are range reaches = subst InputFits (same_input _ input reaches) range.5
input_fits arts x es w n (events.Take d s) input fits carries are range reaches = subst InputFits (same_input _ input reaches) tt
input_fits arts x es w n (events.KTake d s) input fits carries are range reaches = subst InputFits (same_input _ input reaches) tt
input_fits arts x es w n (events.TakePrio d) input fits carries are range reaches = subst InputFits (same_input _ input reaches) tt
input_fits arts x es w n (events.Tick u now) input fits carries are range reaches = subst InputFits (same_input _ input reaches) range.1
input_fits arts x es w n (events.Weight u v weight) input fits carries are range reaches = subst InputFits (same_input _ input reaches) (range.2, range.3)
input_fits arts x es w n (events.Poll u v) input fits carries are range reaches = subst InputFits (same_input _ input reaches) tt
input_fits arts x es w n (events.Pass u v number) input fits carries are range reaches =
    let it = came w.directions u v number (steps.Datagram u) input reaches in
    subst InputFits (sym it.is) (are u v it.place it.bytes it.there)
input_fits arts x es w n (events.Flip u v number back bit) input fits carries are range reaches =
    let it = came w.directions u v number (λ bytes. steps.Datagram u (flipped back bit bytes)) input reaches in
    subst InputFits (sym it.is) (flip_bytes back bit it.bytes range.6 (are u v it.place it.bytes it.there))
input_fits arts x es w n (events.Inject u v bytes) input fits carries are range reaches = subst InputFits (same_input _ input reaches) range.3
input_fits arts x es w n (events.Craft c v key object) input fits carries are range reaches = go (nat_lt (crafts w.crafted key) x.total) reaches
  where
    said : Body
    said = dated n.parts.lives (body_of object)

    o : Kept
    o = crafted_object arts x w.crafted key said

    of : IsOfBytes o
    of = (subst AreBytes (sym (dated_payload n.parts.lives (body_of object))) range.4, carries.signatures x.topology.height _ _ _)

    frame : List ℕ
    frame = crafted_frame arts n c (object_alone n.parts.lives said o)

    bytes : AreBytes frame
    bytes =
        crafted_bytes x.topology.format arts n c (object_alone n.parts.lives said o) carries (plain_alone n.parts.lives said o)
        (one_object n.parts.lives o said refl of)

    go : (t : Bool) → cond t (Some (steps.Datagram c frame)) None ≡ Some input → InputFits input
    go true e = subst InputFits (same_input (steps.Datagram c frame) input e) bytes
    go false e = absurd cc
input_fits arts x es w n (events.CraftStatus c v s d base have) input fits carries are range reaches =
    let contents = slot_alone n.parts.lives (record { src = s; dst = d }) base have None [] in
    subst InputFits (same_input (steps.Datagram c (crafted_frame arts n c contents)) input reaches)
    (crafted_bytes x.topology.format arts n c contents carries (record { document = refl; probe = refl }) (All-nil IsOfBytes))
input_fits arts x es w n (events.Publish u weights) input fits carries are range reaches =
    let last = with_list w.published weights in
    subst InputFits (same_input (steps.Publish (handed_out x last)) input reaches) (fits.room last.version (last_weights x last))
input_fits arts x es w n (events.CraftDocument c v key version weights) input fits carries are range reaches = go (may_sign x w.crafted key) reaches
  where
    document : List ℕ
    document = crafted_document arts x w.crafted key version (unwrap_or weights (last_weights x w.published))

    frame : List ℕ
    frame = crafted_frame arts n c (with_document document)

    bytes : AreBytes frame
    bytes =
        under_tag x.topology.format arts n c (with_document document) carries
        (carries.document_frames (crafted_head n c) document
        (document_bytes arts x w.crafted key version (unwrap_or weights (last_weights x w.published)) fits carries))

    go : (t : Bool) → cond t (Some (steps.Datagram c frame)) None ≡ Some input → InputFits input
    go true e = subst InputFits (same_input (steps.Datagram c frame) input e) bytes
    go false e = absurd cc
input_fits arts x es w n (events.Start u) input fits carries are range reaches = absurd cc
input_fits arts x es w n (events.Stop u) input fits carries are range reaches = absurd cc

-- the payload that a client asks to be sent is bytes
pub payload_fits : (arts : Arts) (x : Setting) (es : List Event) (w : World) (n : NodeState) (e : Event) (input : Input) → AreFields x es e
    → input_of arts x w n e ≡ Some input → AreBytes (payload_in input)
payload_fits arts x es w n (events.Rel s d payload) input range reaches = subst (λ (i : Input). AreBytes (payload_in i)) (same_input _ input reaches) range.3
payload_fits arts x es w n (events.Prio s d prio expiry paths payload) input range reaches =
    subst (λ (i : Input). AreBytes (payload_in i)) (same_input _ input reaches) range.7
payload_fits arts x es w n (events.Krel s d paths payload) input range reaches =
    subst (λ (i : Input). AreBytes (payload_in i)) (same_input _ input reaches) range.6
payload_fits arts x es w n (events.Take d s) input range reaches = subst (λ (i : Input). AreBytes (payload_in i)) (same_input _ input reaches) no_bytes
payload_fits arts x es w n (events.KTake d s) input range reaches = subst (λ (i : Input). AreBytes (payload_in i)) (same_input _ input reaches) no_bytes
payload_fits arts x es w n (events.TakePrio d) input range reaches = subst (λ (i : Input). AreBytes (payload_in i)) (same_input _ input reaches) no_bytes
payload_fits arts x es w n (events.Tick u now) input range reaches = subst (λ (i : Input). AreBytes (payload_in i)) (same_input _ input reaches) no_bytes
payload_fits arts x es w n (events.Weight u v weight) input range reaches =
    subst (λ (i : Input). AreBytes (payload_in i)) (same_input _ input reaches) no_bytes
payload_fits arts x es w n (events.Poll u v) input range reaches = subst (λ (i : Input). AreBytes (payload_in i)) (same_input _ input reaches) no_bytes
payload_fits arts x es w n (events.Pass u v number) input range reaches =
    let it = came w.directions u v number (steps.Datagram u) input reaches in
    subst (λ (i : Input). AreBytes (payload_in i)) (sym it.is) no_bytes
payload_fits arts x es w n (events.Flip u v number back bit) input range reaches =
    let it = came w.directions u v number (λ bytes. steps.Datagram u (flipped back bit bytes)) input reaches in
    subst (λ (i : Input). AreBytes (payload_in i)) (sym it.is) no_bytes
payload_fits arts x es w n (events.Inject u v bytes) input range reaches =
    subst (λ (i : Input). AreBytes (payload_in i)) (same_input _ input reaches) no_bytes
payload_fits arts x es w n (events.Craft c v key object) input range reaches = go (nat_lt (crafts w.crafted key) x.total) reaches
  where
    frame : List ℕ
    frame = crafted_frame arts n c (crafted_contents arts x w.crafted n key (body_of object))

    go : (t : Bool) → cond t (Some (steps.Datagram c frame)) None ≡ Some input → AreBytes (payload_in input)
    go true e = subst (λ (i : Input). AreBytes (payload_in i)) (same_input (steps.Datagram c frame) input e) no_bytes
    go false e = absurd cc
payload_fits arts x es w n (events.CraftStatus c v s d base have) input range reaches =
    subst (λ (i : Input). AreBytes (payload_in i)) (same_input _ input reaches) no_bytes
payload_fits arts x es w n (events.Publish u weights) input range reaches =
    subst (λ (i : Input). AreBytes (payload_in i)) (same_input _ input reaches) no_bytes
payload_fits arts x es w n (events.CraftDocument c v key version weights) input range reaches = go (may_sign x w.crafted key) reaches
  where
    frame : List ℕ
    frame = crafted_frame arts n c (with_document (crafted_document arts x w.crafted key version (unwrap_or weights (last_weights x w.published))))

    go : (t : Bool) → cond t (Some (steps.Datagram c frame)) None ≡ Some input → AreBytes (payload_in input)
    go true e = subst (λ (i : Input). AreBytes (payload_in i)) (same_input (steps.Datagram c frame) input e) no_bytes
    go false e = absurd cc
payload_fits arts x es w n (events.Start u) input range reaches = absurd cc
payload_fits arts x es w n (events.Stop u) input range reaches = absurd cc
