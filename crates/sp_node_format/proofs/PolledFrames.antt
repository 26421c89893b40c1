-- A frame that a node makes is read back: its length first, and then each part where it was put.
use Rattle.std.proofs.Common.{◌≡◌, ◌≤◌, ℕ, ◌+◌, ◌-◌, ◌*◌, ◌||◌, ◌==◌, ◌<◌, if◌then◌else◌, inl, inr, Bool, true, false, List, [], ◌∷◌, ◌++◌, length, drop}
use Rattle.std.proofs.Common.{Option, Some, None, Ok, nat_eq, append_assoc, length-append, refl, sym, ap, ap₂, ◌∙◌, subst, arith, cond}
use Rattle.std.specs.Prelude.{IfSome}
use Rattle.std.specs.List.{All, list_any}
use Rattle.std.specs.Cmp.Lexicographic.{pointwise}
use Rattle.std.proofs.lemmas.Bool.Decides.{nat_tests}
use Rattle.std.proofs.lemmas.List.{drop_at, take_at}
use Rattle.std.proofs.lemmas.List.Elements.{All-head, All-tail}
use Rattle.byteorder.specs.Endian.{big_bytes}
use Rattle.sha2.proofs.Facts256.{length-sha256}
use Rattle.sp_base.specs.Rows.{first_where}
use Rattle.sp_base.specs.Formats.{IsFormat}
use Rattle.sp_base.specs.declared.format.TheConstants.{FORMAT_1}
use Rattle.sp_base.specs.declared.id.NodeId.{NodeId}
use Rattle.sp_base.specs.declared.limits.TheConstants.{MAX_MESSAGES}
use Rattle.sp_node_format.specs.Format.{format_of}
use Rattle.sp_frame.proofs.HeadLemmas.{head_is_read}
use Rattle.sp_frame.proofs.SectionLemmas.{spelled_is_read}
use Rattle.sp_frame.specs.Frames.{ends_bytes, head_bytes, head_of, numbers_bytes, opened_in, tagged_part, tag_part}
use Rattle.sp_frame.specs.Grammar.{later_bytes}
use Rattle.sp_frame.specs.Objects.{IsObject, most, object_bytes}
use Rattle.sp_frame.specs.Prioritized.{numbered_bytes, prios_bytes}
use Rattle.sp_frame.specs.Probes.{epoch_bytes, probe_bytes, probes_bytes}
use Rattle.sp_frame.specs.Ranges.{IsContentsIn, IsHead, IsNumbered, IsReport, Later}
use Rattle.sp_frame.specs.Reliable.{Report, paths_bytes, report_bytes, slot_bytes}
use Rattle.sp_frame.specs.Sections.{Contents, control_bytes, document_bytes, plain_bytes, sections_bytes_in, sections_of_in, sized_bytes, with_document}
use Rattle.sp_frame.specs.Sections.{zeros_bytes}
use Rattle.sp_frame.specs.Weights.{weights_bytes}
use Rattle.sp_frame.specs.declared.head.Head.{Head}
use Rattle.sp_frame.specs.declared.kind.Kind.TheVariants as kinds
use Rattle.sp_frame.specs.declared.probe.Probe.{Probe}
use Rattle.sp_frame.specs.declared.writing.TheConstants.{MAX_DOCUMENT_BYTES}
use Rattle.sp_hmac.specs.Hmac.{block_hmac, hmac}
use Rattle.sp_msg.specs.declared.kept.Kept.{Kept}
use Rattle.sp_rules.specs.Link.{new_link}
use Rattle.sp_rules.specs.Node.{NodeState, is_behind, is_link, is_neighbour, is_shut_to, link_in}
use Rattle.sp_rules.specs.Polls.{contents_at, contents_to, head_to, no_contents}
use Rattle.sp_topology.specs.declared.topology.LmsHeight.TheVariants as heights
use Rattle.laws_node.proofs.Frames.{frames_fit}
use Rattle.laws_node.specs.Nodes.{IsKept, LinkHolds}
use Rattle.sp_node_format.proofs.ObjectLengths.{by_most, counted_len, object_len, report_len, short_len, two_bytes}
use Rattle.sp_node_format.specs.PolledFrames.{PolledIsReadBack, Reads, SignaturesAreShort, most_signature}

-- ---- lengths

pub signatures_are_short : SignaturesAreShort
signatures_are_short heights.Five = omega arith
signatures_are_short heights.Ten = omega arith

-- ---- the parts of a frame

numbered_len : (format : ℕ) (len : ℕ) → len ≤ most_signature → (m : ℕ × Kept) → IsNumbered format len m → length (numbered_bytes format m) ≤ 6174
unfolding numbered_bytes
numbered_len format len small m is = let one = object_len format kinds.Prio len small m.1 is.object in omega (arith, one)

weights_len : (format : ℕ) (len : ℕ) → len ≤ most_signature → (os : List Kept) → All (IsObject format kinds.Weight len) os → length os ≤ 1
    → length (weights_bytes format os) ≤ 5109
unfolding weights_bytes
weights_len format len small os all few =
    let counted = counted_len (IsObject format kinds.Weight len) (object_bytes format) 5108 (short_len format kinds.Weight len refl small) os all in
    omega (arith, few, counted)

prios_len : (format : ℕ) (len : ℕ) → len ≤ most_signature → (ms : List (ℕ × Kept)) → All (IsNumbered format len) ms → length ms ≤ MAX_MESSAGES
    → length (prios_bytes format ms) ≤ 24697
unfolding prios_bytes
prios_len format len small ms all few =
    let counted = counted_len (IsNumbered format len) (numbered_bytes format) 6174 (numbered_len format len small) ms all in
    omega (arith, few, counted)

eight_bytes : (n : ℕ) → length (big_bytes 8 n) ≡ 8
eight_bytes n = omega arith

-- ---- the parts that format 1 lacks

no_probe : (format : ℕ) → length (probes_bytes format None) ≤ 1
unfolding probes_bytes
no_probe format = go (format == FORMAT_1)
  where
    go : (t : Bool) → length (later_bytes probe_bytes t None) ≤ 1
    go true = omega arith
    go false = omega arith

slot_len : (format len few : ℕ) → len ≤ most_signature → most format kinds.Rel ≤ few → (s : Option Report)
    → IfSome s (IsReport format kinds.Ack kinds.Rel len) → length (slot_bytes format s) ≤ 6166 * few + 5145
unfolding slot_bytes
slot_len format len few small most_few None is = omega arith
slot_len format len few small most_few (Some r) is =
    let one = report_len format kinds.Ack kinds.Rel len few refl small most_few r is in omega (arith, one)

paths_len : (format len : ℕ) → len ≤ most_signature → (t : Bool) (s : Option Report) → IfSome s (Later format (IsReport format kinds.Kack kinds.Krel len))
    → length (later_bytes (report_bytes format) t s) ≤ 11311
paths_len format len small true s is = omega arith
paths_len format len small false None is = omega arith
paths_len format len small false (Some r) is =
    let one = report_len format kinds.Kack kinds.Krel len 1 refl small (omega arith) r is.1 in omega (arith, one)

epoch_len : (format len : ℕ) → len ≤ most_signature → (t : Bool) (o : Option Kept) → IfSome o (Later format (IsObject format kinds.Epoch len))
    → length (later_bytes (object_bytes format) t o) ≤ 5109
epoch_len format len small true o is = omega arith
epoch_len format len small false None is = omega arith
epoch_len format len small false (Some o) is = let one = short_len format kinds.Epoch len refl small o is.1 in omega (arith, one)

-- a plain slot has two messages less where the other parts may be
slots_len : (format len : ℕ) → len ≤ most_signature → (s : Contents) → IsContentsIn format len s
    → length (slot_bytes format s.slot) + length (paths_bytes format s.paths) + length (epoch_bytes format s.epoch) ≤ 33897
unfolding paths_bytes epoch_bytes
slots_len format len small s is = go (format == FORMAT_1) refl
  where
    go : (t : Bool) → (format == FORMAT_1) ≡ t
        → length (slot_bytes format s.slot) + length (later_bytes (report_bytes format) t s.paths) + length (later_bytes (object_bytes format) t s.epoch)
        ≤ 33897
    go true first =
        let slot = slot_len format len 4 small (by_most format MAX_MESSAGES 2 4 (omega arith) (omega arith)) s.slot is.slot in
        omega (arith, slot)
    go false later =
        let few : most format kinds.Rel ≤ 2 = rw later (omega arith) in
        let slot = slot_len format len 2 small few s.slot is.slot in
        let paths = paths_len format len small false s.paths is.paths in
        let epoch = epoch_len format len small false s.epoch is.epoch in
        omega (arith, slot, paths, epoch)

seven : (a b c d e f g : List ℕ)
    → length (a ++ b ++ c ++ d ++ e ++ f ++ g) ≡ length a + length b + length c + length d + length e + length f + length g
seven a b c d e f g =
    let first = length-append (((((a ++ b) ++ c) ++ d) ++ e) ++ f) g in
    let second = length-append ((((a ++ b) ++ c) ++ d) ++ e) f in
    let third = length-append (((a ++ b) ++ c) ++ d) e in
    let fourth = length-append ((a ++ b) ++ c) d in
    let fifth = length-append (a ++ b) c in
    omega (arith, first, second, third, fourth, fifth, length-append a b)

-- what a datagram has room for between a head and a tag
abbrev pub most_sections : ℕ
most_sections = 65442

-- these parts it lacks
pub record IsPlain (s : Contents) : Type 0 where
  pub document : s.document ≡ None
  pub probe : s.probe ≡ None

-- the sections of a frame that a node makes fit into a frame
pub sections_len : (format : ℕ) (len : ℕ) → len ≤ most_signature → (s : Contents) → IsPlain s → IsContentsIn format len s
    → length (sections_bytes_in format s) ≤ most_sections
unfolding sections_bytes_in plain_bytes
sections_len format len small s plain is =
    let weights = weights_bytes format s.weights in
    let prios = prios_bytes format s.prios in
    let slot = slot_bytes format s.slot in
    let parts = seven weights (big_bytes 8 s.prio_ack) prios slot (paths_bytes format s.paths) (probes_bytes format s.probe) (epoch_bytes format s.epoch) in
    let one = weights_len format len small s.weights is.weights is.few_weights in
    let two = eight_bytes s.prio_ack in
    let more = prios_len format len small s.prios is.prios is.few_prios in
    let slots = slots_len format len small s is in
    let probe = subst (λ (o : Option Probe). length (probes_bytes format o) ≤ 1) (sym plain.probe) (no_probe format) in
    subst (λ (d : Option (List ℕ)). length (control_bytes format s d) ≤ most_sections) (sym plain.document)
    (omega (arith, parts, one, two, more, slots, probe))

-- a document is as long as a datagram has room for
pub document_len : (format : ℕ) (document : List ℕ) → length document ≤ MAX_DOCUMENT_BYTES
    → length (sections_bytes_in format (with_document document)) ≤ most_sections
unfolding sections_bytes_in document_bytes sized_bytes zeros_bytes
document_len format document few =
    let two = two_bytes (length document) in
    omega (arith, two, few, length-append document (zeros_bytes 0))

head_len : (h : Head) → length (head_bytes h) ≡ 33
unfolding head_bytes ends_bytes numbers_bytes
head_len h = omega arith

-- ---- a frame

opens : (h : Head) (rest : List ℕ) → h.format < 256 → 32 ≤ length rest → length rest ≤ 65474
    → opened_in h.format (head_bytes h ++ rest) ≡ Ok (head_bytes h ++ rest)
unfolding head_bytes ends_bytes numbers_bytes
opens h rest small least most = grind (arith, nat_tests, small, least, most)

-- a frame is read back as the head and the sections that it was made of
pub read_back : (len : ℕ) (h : Head) (s : Contents) (tag : List ℕ) → length (sections_bytes_in h.format s) ≤ most_sections → IsHead h
    → IsContentsIn h.format len s → length tag ≡ 32 → Reads h.format ((head_bytes h ++ sections_bytes_in h.format s) ++ tag) len h s
read_back len h s tag size head contents long =
    let sections = sections_bytes_in h.format s in
    let inner = head_bytes h ++ sections in
    let bytes = inner ++ tag in
    let together : bytes ≡ head_bytes h ++ (sections ++ tag) = append_assoc (head_bytes h) sections tag in
    let all : length (sections ++ tag) ≡ length sections + length tag = length-append sections tag in
    let whole : length bytes ≡ length inner + length tag = length-append inner tag in
    let signed : tagged_part bytes ≡ inner = take_at inner tag (length bytes - 32) (omega (arith, whole, long)) in
    record {
      opens = rw together (opens h (sections ++ tag) head.format (omega (arith, all, long)) (omega (arith, all, long, size)));
      head = ap head_of together ∙ head_is_read h (sections ++ tag) head;
      sections = ap (λ (bs : List ℕ). sections_of_in h.format len (drop 33 bs)) signed
          ∙ (ap (sections_of_in h.format len) (drop_at (head_bytes h) sections 33 (head_len h)) ∙ spelled_is_read h.format len s contents);
    }

tag_len : (key message : List ℕ) → length (hmac key message) ≡ 32
unfolding block_hmac
tag_len key message = length-sha256 _

same_bytes : (xs : List ℕ) → pointwise nat_eq xs xs ≡ true
same_bytes [] = refl
same_bytes (x ∷ xs) = let rest = same_bytes xs in grind (arith, nat_tests, rest)

-- ---- a node's frame

found : {X : Type 0} (P : X → Type 0) (test : X → Bool) (d : X) (xs : List X) → list_any test xs ≡ true → All P xs → P (first_where test d xs)
found P test d [] some all = absurd (cc)
found P test d (x ∷ xs) some all = by (test x) refl (λ rest. found P test d xs rest (All-tail P x xs all)) some
  where
    by : (t : Bool) → test x ≡ t → (list_any test xs ≡ true → P (first_where test d xs)) → (t || list_any test xs) ≡ true → P (cond t x (first_where test d xs))
    by true is rest some = All-head P x xs all
    by false is rest some = rest some

small_format : (format : ℕ) → IsFormat format → format < 256
small_format format (inl one) = omega (arith, one)
small_format format (inr two) = omega (arith, two)

head_fits : (n : NodeState) (v : NodeId) → IsKept (format_of n.fixed) n → is_neighbour n v ≡ true → IsHead (head_to n v)
head_fits n v kept is =
    let h = found (LinkHolds n.calls) (is_link v) (new_link n.fixed.me v 0 []) n.links is kept.links in
    let calls = kept.calls in
    let sent = h.sent in
    record {
      format = small_format n.fixed.topology.format kept.fixed.topology.ranges.format;
      from = h.me;
      to = h.peer;
      boot = h.boot;
      echo = h.peer_boot;
      counter = omega (arith, sent, calls);
      topology = kept.live.version;
    }

-- each of the three kinds has room
contents_len : (n : NodeState) (v : NodeId) → IsKept (format_of n.fixed) n → n.fixed.signature_len ≤ most_signature
    → length (sections_bytes_in n.fixed.topology.format (contents_at n v)) ≤ most_sections
contents_len n v kept small = go (is_behind n v) (is_shut_to n v) (frames_fit (format_of n.fixed) n v kept)
  where
    plain : (s : Contents) → IsPlain s → IsContentsIn n.fixed.topology.format n.fixed.signature_len s
        → length (sections_bytes_in n.fixed.topology.format s) ≤ most_sections
    plain s = sections_len n.fixed.topology.format n.fixed.signature_len small s

    go : (behind shut : Bool)
        → IsContentsIn n.fixed.topology.format n.fixed.signature_len
        (if behind then with_document n.live.document else if shut then no_contents else contents_to n.fixed n.parts v)
        → length (sections_bytes_in n.fixed.topology.format
        (if behind then with_document n.live.document else if shut then no_contents else contents_to n.fixed n.parts v)) ≤ most_sections
    go true shut fits = document_len n.fixed.topology.format n.live.document kept.live.document.1
    go false true fits = plain no_contents (record { document = refl; probe = refl }) fits
    go false false fits = plain (contents_to n.fixed n.parts v) (record { document = refl; probe = refl }) fits

pub polled_is_read_back : PolledIsReadBack
polled_is_read_back n v kept small is =
    let l = link_in n v in
    let h = head_to n v in
    let s = contents_at n v in
    let inner = head_bytes h ++ sections_bytes_in h.format s in
    let tag = hmac l.key inner in
    let long = tag_len l.key inner in
    let whole : length (inner ++ tag) ≡ length inner + length tag = length-append inner tag in
    let signed : tagged_part (inner ++ tag) ≡ inner = take_at inner tag (length (inner ++ tag) - 32) (omega (arith, whole, long)) in
    let behind : tag_part (inner ++ tag) ≡ tag = drop_at inner tag (length (inner ++ tag) - 32) (omega (arith, whole, long)) in (
      read_back n.fixed.signature_len h s tag (contents_len n v kept small) (head_fits n v kept is) (frames_fit (format_of n.fixed) n v kept) long,
      ap₂ (λ (a b : List ℕ). pointwise nat_eq a (hmac l.key b)) behind signed ∙ same_bytes tag,
    )
