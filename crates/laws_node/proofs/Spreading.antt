-- A document is offered and taken.
use Rattle.std.proofs.Common.{ap, arith, cond, Bool, ◌&&◌, ◌==◌, ◌≡◌, ◌∙◌, ◌≤◌, ◌<◌, ℕ, max, true, false, not, List, ◌++◌, Option, Some, None, Ok, Result}
use Rattle.std.proofs.Common.{refl, subst, sym, inl, inr}
use Rattle.std.specs.Prelude.{◌⊎◌, IsTrue, nat_le, nat_lt}
use Rattle.std.specs.List.{list_any}
use Rattle.std.proofs.lemmas.Bool.{eq-eqb}
use Rattle.std.proofs.lemmas.Bool.Decides.{nat_tests}
use Rattle.sp_base.specs.Cursor.{or_else}
use Rattle.sp_base.specs.declared.id.NodeId.{NodeId}
use Rattle.sp_frame.specs.Sections.{Contents, with_document}
use Rattle.sp_frame.specs.declared.refused.FrameRefused.{FrameRefused}
use Rattle.sp_frame.specs.declared.refused.SectionRefused.{SectionRefused}
use Rattle.sp_rules.specs.Arrivals.{after_datagram, before_document, document_at, document_in, document_where, heard_after, is_from_peer, is_tagged, is_told}
use Rattle.sp_rules.specs.Arrivals.{link_says, no_frame, not_fresh, not_open, not_read, not_taken, or_fresh, read_by, reply_at, rises, sections_in}
use Rattle.sp_rules.specs.Arrivals.{version_after}
use Rattle.sp_rules.specs.Arts.{Arts, Document}
use Rattle.sp_rules.specs.Documents.{adopting, after_publish, answer_to}
use Rattle.sp_rules.specs.Node.{NodeState, is_behind, is_shut_to, kept_or, link_in, topology_now, version_of}
use Rattle.sp_rules.specs.Parts.{changes}
use Rattle.sp_rules.specs.Polls.{contents_to, head_to, no_contents}
use Rattle.sp_rules.specs.Topologies.{succeeds}
use Rattle.sp_rules.specs.Versions.{Heard, is_heard_of, kept_version, none_heard, version_in, with_version}
use Rattle.sp_rules.specs.declared.answers.DocumentAnswer.{DocumentAnswer}
use Rattle.sp_rules.specs.declared.answers.DocumentAnswer.TheVariants as documents
use Rattle.sp_rules.specs.declared.link.LinkAnswer.{LinkAnswer}
use Rattle.sp_rules.specs.declared.node.LinkReply.{LinkReply}
use Rattle.sp_rules.specs.declared.node.LinkReply.TheVariants as replies
use Rattle.sp_rules.specs.declared.node.NodeRefused.{NodeRefused}
use Rattle.laws_node.specs.Spreading.{IsOffer, OffersAreTaken, OlderIsOffered, VersionsAreHeard}
use Rattle.laws_node.proofs.Adopting.{reading}
use Rattle.laws_node.proofs.TableReads.{first_replaced}

-- ---- what is offered

pub older_is_offered : OlderIsOffered
older_is_offered arts n v may some older =
    let one : nat_lt 0 (version_of n v) ≡ true = grind (arith, nat_tests, some) in
    let two : nat_lt (version_of n v) n.live.version ≡ true = grind (arith, nat_tests, older) in
    let behind : is_behind n v ≡ true = rw (may, one, two) refl in
    let else_what = cond (is_shut_to n v) no_contents (contents_to n.fixed n.parts v) in
    let tagged : List ℕ → List ℕ = λ untagged. untagged ++ arts.tag (link_in n v).key untagged in
    ap (λ (t : Bool). tagged (arts.frame (head_to n v) (cond t (with_document n.live.document) else_what))) behind

-- ---- what is taken

-- a fresh frame with a document is handled
taken_reply : (mine theirs : ℕ) (contents : Contents) (document : List ℕ) (shut : Bool) → contents.document ≡ Some document
    → or_fresh (not_taken mine theirs true (Ok contents) shut) ≡ replies.Fresh
taken_reply mine theirs contents document shut carried =
    ap (λ (o : Option (List ℕ)). or_fresh (or_else (not_read mine theirs true (Ok contents)) (not_open o shut))) carried ∙ go (not (theirs == mine)) shut
  where
    go : (a b : Bool)
        → or_fresh (or_else (cond (a && false) (Some (replies.OtherTopology theirs)) None) (cond (b && false) (Some replies.Withdrawn) None)) ≡ replies.Fresh
    go true true = refl
    go true false = refl
    go false true = refl
    go false false = refl

offered_reply : (arts : Arts) (n : NodeState) (v : NodeId) (bytes document : List ℕ) (d : Document) → IsOffer arts n v bytes document d
    → reply_at arts n v bytes ≡ replies.Fresh
offered_reply arts n v bytes document d h =
    ap (λ (o : Result (List ℕ) FrameRefused). or_fresh (or_else (no_frame o) (or_else (not_fresh (link_says arts (link_in n v) bytes))
    (not_taken n.live.version (arts.head bytes).topology (arts.is_document bytes) (sections_in arts n.fixed bytes) (is_shut_to n v))))) h.opened
    ∙ ap (λ (a : LinkAnswer). or_fresh (or_else (not_fresh a)
    (not_taken n.live.version (arts.head bytes).topology (arts.is_document bytes) (sections_in arts n.fixed bytes) (is_shut_to n v)))) h.fresh
    ∙ ap (λ (t : Bool). or_fresh (not_taken n.live.version (arts.head bytes).topology t (sections_in arts n.fixed bytes) (is_shut_to n v))) h.begins
    ∙ ap (λ (s : Result Contents SectionRefused). or_fresh (not_taken n.live.version (arts.head bytes).topology true s (is_shut_to n v))) h.sections
    ∙ taken_reply n.live.version (arts.head bytes).topology h.contents document (is_shut_to n v) h.carried

-- what the answer leaves of the version
publish_version : (arts : Arts) (n : NodeState) (document : List ℕ) (d : Document) → arts.read_document document ≡ Some d
    → IsTrue (arts.valid n.fixed.admin d.message d.signature) → (n.live.version < d.topology.version → IsTrue (succeeds (topology_now n) d.topology))
    → (after_publish arts n document).live.version ≡ max n.live.version d.topology.version
publish_version arts n document d reads signed follows =
    subst (λ (o : Option Document). (adopting (answer_to arts n o) n document o).live.version ≡ max n.live.version d.topology.version) (sym reads)
    (go (nat_le d.topology.version n.live.version) refl)
  where
    -- what an answer leaves
    left : DocumentAnswer → ℕ
    left a = (adopting a n document (Some d)).live.version

    last : (t : Bool) → nat_le d.topology.version n.live.version ≡ false → succeeds (topology_now n) d.topology ≡ t
        → left (cond (not t) documents.Strange (documents.Adopted d.topology.version)) ≡ max n.live.version d.topology.version
    last true above is = let more : n.live.version < d.topology.version = grind (arith, nat_tests, above) in omega (arith, more)
    last false above is =
        let more : n.live.version < d.topology.version = grind (arith, nat_tests, above) in
        absurd (let both : true ≡ false = sym (follows more) ∙ is in cc)

    second : (t : Bool) → nat_le d.topology.version n.live.version ≡ false → arts.valid n.fixed.admin d.message d.signature ≡ t
        → left (cond (not t) documents.BadSig (cond (not (succeeds (topology_now n) d.topology)) documents.Strange (documents.Adopted d.topology.version)))
        ≡ max n.live.version d.topology.version
    second true above is = last (succeeds (topology_now n) d.topology) above refl
    second false above is = absurd (let both : true ≡ false = sym signed ∙ is in cc)

    go : (t : Bool) → nat_le d.topology.version n.live.version ≡ t
        → left (cond t (documents.Old n.live.version) (cond (not (arts.valid n.fixed.admin d.message d.signature)) documents.BadSig
        (cond (not (succeeds (topology_now n) d.topology)) documents.Strange (documents.Adopted d.topology.version))))
        ≡ max n.live.version d.topology.version
    go true old = let less : d.topology.version ≤ n.live.version = grind (arith, nat_tests, old) in omega (arith, less)
    go false above = second (arts.valid n.fixed.admin d.message d.signature) above refl

pub offers_are_taken : OffersAreTaken
offers_are_taken arts n v bytes document d h =
    let left = before_document arts n v bytes in
    let at : document_at arts n v bytes ≡ Some document =
    ap (λ (r : LinkReply). document_where r (document_in (sections_in arts n.fixed bytes))) (offered_reply arts n v bytes document d h)
    ∙ ap document_in h.sections ∙ h.carried in
    ap (λ (r : Option NodeRefused). (kept_or r n (read_by arts left (document_at arts n v bytes))).live.version) h.called
    ∙ ap (λ (o : Option (List ℕ)). (read_by arts left o).live.version) at ∙ publish_version arts left document d h.reads h.signed h.follows

-- ---- what is heard

-- a document leaves what was heard
read_heard : (arts : Arts) (n : NodeState) (document : Option (List ℕ)) → (read_by arts n document).heard ≡ n.heard
read_heard arts n document = reading arts n document (λ m told. m.heard ≡ n.heard) refl (λ bytes d is reads by. refl)

-- the row that is put in is found again
put_again : (v : NodeId) (version : ℕ) (rows : List Heard) → list_any (is_heard_of v) rows ≡ true → version_in (with_version rows v version) v ≡ version
put_again v version rows there =
    ap (λ (h : Heard). h.version) (first_replaced (is_heard_of v) (none_heard v) (record { peer = v; version = version }) rows (eq-eqb v.0 v.0 refl) there)

-- at least the version of its head
heard_least : (epochs rises known : Bool) (kept theirs : ℕ) → (epochs ≡ true → (rises ≡ true) ⊎ (known ≡ true))
    → theirs ≤ kept_version epochs rises known kept theirs
heard_least false rises known kept theirs lately = omega arith
heard_least true true known kept theirs lately = omega arith
heard_least true false true kept theirs lately = omega arith
heard_least true false false kept theirs lately = none (lately refl)
  where
    none : (false ≡ true) ⊎ (false ≡ true) → theirs ≤ kept
    none (inl e) = absurd (cc)
    none (inr e) = absurd (cc)

pub versions_are_heard : VersionsAreHeard
versions_are_heard arts n v bytes may h =
    let left = before_document arts n v bytes in
    let version = version_after arts n v bytes in
    let told : is_told arts n v bytes ≡ true =
    ap (λ (o : Result (List ℕ) FrameRefused). changes n.fixed && is_from_peer (no_frame o) (link_says arts (link_in n v) bytes)) h.opened
    ∙ ap (λ (t : Bool). t && is_tagged (link_says arts (link_in n v) bytes)) may ∙ h.tagged in
    let after : heard_after arts n v bytes ≡ with_version n.heard v version = ap (λ (t : Bool). cond t (with_version n.heard v version) n.heard) told in
    let all : version_of (after_datagram arts n v bytes) v ≡ version =
    ap (λ (r : Option NodeRefused). version_of (kept_or r n (read_by arts left (document_at arts n v bytes))) v) h.called
    ∙ ap (λ (hs : List Heard). version_in hs v) (read_heard arts left (document_at arts n v bytes) ∙ after) ∙ put_again v version n.heard h.row in
    let known = (arts.head bytes).boot == (link_in n v).peer_boot in
    let least = heard_least n.fixed.epochs (rises arts n v bytes) known (version_of n v) (arts.head bytes).topology (λ epochs. lately (h.lately epochs)) in
    omega (arith, all, least)
  where
    lately : (rises arts n v bytes ≡ true) ⊎ ((arts.head bytes).boot ≡ (link_in n v).peer_boot)
        → (rises arts n v bytes ≡ true) ⊎ (((arts.head bytes).boot == (link_in n v).peer_boot) ≡ true)
    lately (inl risen) = inl risen
    lately (inr same) = inr (eq-eqb (arts.head bytes).boot (link_in n v).peer_boot same)
