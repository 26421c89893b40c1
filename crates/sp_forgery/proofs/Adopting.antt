-- A document that a node adopted from a datagram is the one that was read of it before, and no longer than the datagram.
use Rattle.std.proofs.Common.{◌≡◌, ◌≤◌, ◌-◌, ◌+◌, ◌∙◌, ℕ, Bool, true, false, List, [], ◌∷◌, ◌++◌, length, map, take, Option, Some, None, Result, Ok, Err, refl}
use Rattle.std.proofs.Common.{sym, ap, arith}
use Rattle.std.specs.Prelude.{◌<◌, ◌&&◌, if◌then◌else◌, option_map}
use Rattle.byteorder.specs.Endian.{big_bytes}
use Rattle.std.proofs.lemmas.List.{length-append, length-drop, length-take}
use Rattle.std.proofs.lemmas.List.Elements.{All-drop, All-take}
use Rattle.std.proofs.lemmas.Option.{same_Some}
use Rattle.sp_base.specs.Spelling.{AreBytes}
use Rattle.sp_base.specs.declared.id.NodeId.{NodeId}
use Rattle.sp_frame.proofs.SectionLemmas.{read_is_spelled}
use Rattle.sp_frame.specs.Frames.{opened_in, sections_part, tagged_part}
use Rattle.sp_frame.specs.Sections.{Contents, control_bytes, document_bytes, sections_bytes_in, sections_of_in, sized_bytes, zeros_bytes}
use Rattle.sp_frame.specs.declared.refused.FrameRefused.{FrameRefused}
use Rattle.sp_frame.specs.declared.refused.SectionRefused.{SectionRefused}
use Rattle.sp_node_format.specs.Format.{document_in, format_in}
use Rattle.sp_rules.specs.Arrivals as arrivals
use Rattle.sp_rules.specs.Arrivals.{arrival_at, before_document, document_at, document_where, handled, heeded, parts_met, pieces_beside, pieces_in}
use Rattle.sp_rules.specs.Arrivals.{pieces_where}
use Rattle.sp_rules.specs.Arrivals.{reply_at}
use Rattle.sp_rules.specs.Arts.{Arts, Document}
use Rattle.sp_rules.specs.Documents.{adopted_where, answer_to}
use Rattle.sp_rules.specs.Handle.{handle_all}
use Rattle.sp_rules.specs.Node.{NodeState}
use Rattle.sp_rules.specs.Pieces.{Piece, pieces_of}
use Rattle.sp_rules.specs.Steps.{document_adopted, document_items}
use Rattle.sp_rules.specs.Topologies.{weights_in}
use Rattle.sp_rules.specs.declared.answers.DocumentAnswer.{DocumentAnswer}
use Rattle.sp_rules.specs.declared.answers.DocumentAnswer.TheVariants as answers
use Rattle.sp_rules.specs.declared.answers.Item.{Item}
use Rattle.sp_rules.specs.declared.answers.Item.TheVariants as items
use Rattle.sp_rules.specs.declared.node.LinkReply.{LinkReply}
use Rattle.sp_rules.specs.declared.node.LinkReply.TheVariants as links
use Rattle.sp_runs.specs.Forgery.{forged_document, is_published}
use Rattle.sp_schedule_events.specs.declared.event.Event.{Event}
use Rattle.sp_topology.specs.declared.topology.Topology.{Topology}
use Rattle.sp_forgery.specs.Brought.{brought_at, is_adopted, is_fresh, read_there, saying, topology_in, unpublished}
use Rattle.sp_forgery.proofs.Finding.{are_frame}

-- ---- another reply than that all tests were passed

no_document : (l : LinkReply) → document_where l None ≡ None
no_document links.TooLong = refl
no_document (links.Short short) = refl
no_document links.Magic = refl
no_document links.Version = refl
no_document links.NotForMe = refl
no_document links.BadTag = refl
no_document (links.Learned boot) = refl
no_document (links.Stale boot counter) = refl
no_document (links.OtherTopology theirs) = refl
no_document (links.Section refused) = refl
no_document links.Withdrawn = refl
no_document links.Fresh = refl

no_pieces : (l : LinkReply) → pieces_where l [] ≡ []
no_pieces links.TooLong = refl
no_pieces (links.Short short) = refl
no_pieces links.Magic = refl
no_pieces links.Version = refl
no_pieces links.NotForMe = refl
no_pieces links.BadTag = refl
no_pieces (links.Learned boot) = refl
no_pieces (links.Stale boot counter) = refl
no_pieces (links.OtherTopology theirs) = refl
no_pieces (links.Section refused) = refl
no_pieces links.Withdrawn = refl
no_pieces links.Fresh = refl

-- it is this one, or nothing is handled
pub data Met (l : LinkReply) : Type 0 where
  Fresh : l ≡ links.Fresh → Met l
  Other : is_fresh l ≡ false → ((document : Option (List ℕ)) → document_where l document ≡ None) → Met l

met : (l : LinkReply) → Met l
met links.TooLong = Other refl (λ document. refl)
met (links.Short short) = Other refl (λ document. refl)
met links.Magic = Other refl (λ document. refl)
met links.Version = Other refl (λ document. refl)
met links.NotForMe = Other refl (λ document. refl)
met links.BadTag = Other refl (λ document. refl)
met (links.Learned boot) = Other refl (λ document. refl)
met (links.Stale boot counter) = Other refl (λ document. refl)
met (links.OtherTopology theirs) = Other refl (λ document. refl)
met (links.Section refused) = Other refl (λ document. refl)
met links.Withdrawn = Other refl (λ document. refl)
met links.Fresh = Fresh refl

none_unpublished : (es : List Event) (l : LinkReply) (these : List Item) (b : Option (List ℕ × Topology)) → is_fresh l ≡ false → unpublished es l these b ≡ None
none_unpublished es l these None other = refl
none_unpublished es l these (Some b) other = rw other refl

-- ---- what is forged of it

module _ (es : List Event) (format : ℕ) where
  abbrev arts : Arts
  arts = format_in format

  -- by the answer to it
  by_answer : (document : List ℕ) (read : Document) (answer : DocumentAnswer) → document_in document ≡ Some read
      → unpublished es links.Fresh (items.Document answer ∷ []) (Some (document, read.topology)) ≡ forged_document arts es (adopted_where answer document)
  by_answer document read (answers.Adopted version) is = rw is refl
  by_answer document read answers.Bad is = refl
  by_answer document read (answers.Old held) is = refl
  by_answer document read answers.BadSig is = refl
  by_answer document read answers.Strange is = refl

  -- by what it says
  by_document : (node : NodeState) (document : List ℕ) (read : Option Document) → document_in document ≡ read
      → unpublished es links.Fresh (items.Document (answer_to arts node read) ∷ []) (saying document (option_map (λ d. d.topology) read))
      ≡ forged_document arts es (adopted_where (answer_to arts node read) document)
  by_document node document None is = refl
  by_document node document (Some read) is = by_answer document read (answer_to arts node (Some read)) is

  -- by the reply
  by_reply : (node : NodeState) (l : LinkReply) (document : List ℕ) (these : List Item) → these ≡ document_items arts node (document_where l (Some document))
      → unpublished es l these (read_there (Some document)) ≡ forged_document arts es (document_adopted arts node (document_where l (Some document)))
  by_reply node l document these are = go (met l)
    where
      go : Met l → unpublished es l these (read_there (Some document)) ≡ forged_document arts es (document_adopted arts node (document_where l (Some document)))
      go (Fresh is) = rw (are, is) (by_document node document (document_in document) refl)
      go (Other other nothing) =
          none_unpublished es l these (read_there (Some document)) other
          ∙ sym (ap (λ (d : Option (List ℕ)). forged_document arts es (document_adopted arts node d)) (nothing (Some document)))

  -- by what the bytes are
  module _ (n : NodeState) (u : NodeId) (bytes : List ℕ) (these : List Item) where
    abbrev node : NodeState
    node = before_document arts n u bytes

    abbrev l : LinkReply
    l = reply_at arts n u bytes

    abbrev read : Result Contents SectionRefused
    read = sections_of_in format n.fixed.signature_len (sections_part bytes)

    abbrev AreItems : Type 0
    AreItems = these ≡ map (λ a. a.1) (handled arts n u bytes).answered ++ document_items arts node (document_at arts n u bytes)

    abbrev AreSame : Result (List ℕ) FrameRefused → Result Contents SectionRefused → Type 0
    AreSame o s = unpublished es l these (brought_at o s) ≡ forged_document arts es (document_adopted arts node (document_where l (arrivals.document_in s)))

    -- nothing is handled beside a document
    alone : (contents : Contents) (document : List ℕ) → AreItems → read ≡ Ok contents → contents.document ≡ Some document
        → these ≡ document_items arts node (document_where l (Some document))
    alone contents document are reads has =
        let pieces : pieces_where l (pieces_in n.fixed read) ≡ [] =
        ap (λ (s : Result Contents SectionRefused). pieces_where l (pieces_in n.fixed s)) reads
        ∙ ap (λ (d : Option (List ℕ)). pieces_where l (pieces_beside d (pieces_of (heeded n.fixed contents)))) has
        ∙ no_pieces l in
        are
        ∙ ap (λ (ps : List Piece). map (λ a. a.1) (handle_all arts (arrival_at n u) (parts_met arts n u bytes) ps).answered
        ++ document_items arts node (document_at arts n u bytes)) pieces
        ∙ ap (λ (s : Result Contents SectionRefused). document_items arts node (document_where l (arrivals.document_in s))) reads
        ∙ ap (λ (d : Option (List ℕ)). document_items arts node (document_where l d)) has

    none_forged : (document : Option (List ℕ)) → document_where l document ≡ None
        → None ≡ forged_document arts es (document_adopted arts node (document_where l document))
    none_forged document nothing = sym (ap (λ (d : Option (List ℕ)). forged_document arts es (document_adopted arts node d)) nothing)

    of_contents : (contents : Contents) (document : Option (List ℕ)) → AreItems → read ≡ Ok contents → contents.document ≡ document
        → unpublished es l these (read_there document) ≡ forged_document arts es (document_adopted arts node (document_where l document))
    of_contents contents None are reads has = none_forged None (no_document l)
    of_contents contents (Some document) are reads has = by_reply node l document these (alone contents document are reads has)

    no_bytes : (refused : FrameRefused) (s : Result Contents SectionRefused) → opened_in format bytes ≡ Err refused → Met l → AreSame (Err refused) s
    no_bytes refused s opens (Fresh fresh) = absurd (are_frame format n u bytes refused fresh opens)
    no_bytes refused s opens (Other other nothing) = none_forged (arrivals.document_in s) (nothing (arrivals.document_in s))

    by_reading : (o : Result (List ℕ) FrameRefused) (s : Result Contents SectionRefused) → AreItems → opened_in format bytes ≡ o → read ≡ s → AreSame o s
    by_reading (Ok frame) (Ok contents) are opens reads = of_contents contents contents.document are reads refl
    by_reading (Ok frame) (Err refused) are opens reads = none_forged None (no_document l)
    by_reading (Err refused) s are opens reads = no_bytes refused s opens (met l)

    pub document_is : (len : ℕ) (link : LinkReply) → n.fixed.signature_len ≡ len → link ≡ l → AreItems
        → unpublished es link these (brought_at (opened_in format bytes) (sections_of_in format len (sections_part bytes)))
        ≡ forged_document arts es (document_adopted arts node (document_at arts n u bytes))
    document_is len link long is are =
        ap (λ (r : LinkReply). unpublished es r these (brought_at (opened_in format bytes) (sections_of_in format len (sections_part bytes)))) is
        ∙ ap (λ (k : ℕ). unpublished es l these (brought_at (opened_in format bytes) (sections_of_in format k (sections_part bytes)))) (sym long)
        ∙ by_reading (opened_in format bytes) read are refl refl

-- ---- how long it is

spelled_long : (document : List ℕ) → length document ≤ length (document_bytes document)
unfolding document_bytes sized_bytes
spelled_long document =
    let size = big_bytes 2 (length document) in
    omega (arith, length-append (size ++ document) (zeros_bytes 0), length-append size document)

-- where sections have a document, they are its spelling
spelled_is : (format len : ℕ) (part : List ℕ) (s : Contents) (document : List ℕ) → AreBytes part → sections_of_in format len part ≡ Ok s
    → s.document ≡ Some document → part ≡ 128 ∷ document_bytes document
unfolding sections_bytes_in
spelled_is format len part s document are reads is =
    (read_is_spelled format len part s are reads).0 ∙ ap (λ (o : Option (List ℕ)). control_bytes format s o) is

carried_short : (format len : ℕ) (bytes : List ℕ) (s : Contents) (document : List ℕ) → AreBytes bytes → sections_of_in format len (sections_part bytes) ≡ Ok s
    → s.document ≡ Some document → length document ≤ length bytes
carried_short format len bytes s document are reads is =
    let part : AreBytes (sections_part bytes) =
    All-drop (λ b. b < 256) 33 (take (length bytes - 32) bytes) (All-take (λ b. b < 256) (length bytes - 32) bytes are) in
    let spelled = spelled_is format len (sections_part bytes) s document part reads is in
    let inner : length (tagged_part bytes) ≤ length bytes - 32 = omega (arith, length-take (length bytes - 32) bytes) in
    let all : length (sections_part bytes) ≡ length (tagged_part bytes) - 33 = length-drop 33 (tagged_part bytes) in
    omega (arith, ap length spelled, spelled_long document, inner, all)

pub document_is_short : (es : List Event) (format len : ℕ) (l : LinkReply) (these : List Item) (bytes document : List ℕ) → AreBytes bytes
    → Some document ≡ unpublished es l these (brought_at (opened_in format bytes) (sections_of_in format len (sections_part bytes)))
    → length document ≤ length bytes
document_is_short es format len l these bytes document are = go (opened_in format bytes) (sections_of_in format len (sections_part bytes)) refl
  where
    -- what is forged is the document itself
    own : (d : List ℕ) (t : Option Topology) → Some document ≡ unpublished es l these (saying d t) → document ≡ d
    own d None is = absurd (cc)
    own d (Some t) is = by_tests (is_fresh l && is_adopted these) (is_published es t.version (weights_in t.edges)) is
      where
        by_tests : (taken published : Bool) → Some document ≡ (if taken then (if published then None else Some d) else None) → document ≡ d
        by_tests true true is = absurd (cc)
        by_tests true false is = same_Some document d is
        by_tests false published is = absurd (cc)

    of_document : (contents : Contents) (d : Option (List ℕ)) → sections_of_in format len (sections_part bytes) ≡ Ok contents → contents.document ≡ d
        → Some document ≡ unpublished es l these (read_there d) → length document ≤ length bytes
    of_document contents None reads has is = absurd (cc)
    of_document contents (Some d) reads has is =
        let short = carried_short format len bytes contents d are reads has in
        omega (arith, ap length (own d (topology_in d) is), short)

    go : (o : Result (List ℕ) FrameRefused) (s : Result Contents SectionRefused) → sections_of_in format len (sections_part bytes) ≡ s
        → Some document ≡ unpublished es l these (brought_at o s) → length document ≤ length bytes
    go (Ok frame) (Ok contents) reads is = of_document contents contents.document reads refl is
    go (Ok frame) (Err refused) reads is = absurd (cc)
    go (Err refused) s reads is = absurd (cc)
