-- A datagram that is answered is a step of the rules.
use Rattle.std.proofs.Common.{◌≡◌, ◌∙◌, ℕ, Bool, List, [], ◌∷◌, ◌++◌, map, append-nil, Option, None, Some, Result, Ok, Err, sym, ap}
use Rattle.sp_base.specs.declared.id.NodeId.{NodeId}
use Rattle.sp_frame.specs.Sections.{Contents}
use Rattle.sp_frame.specs.declared.refused.SectionRefused.{SectionRefused}
use Rattle.sp_node_arrivals.specs.Admitted.{IsAdmitted}
use Rattle.sp_node_format.specs.Format.{format_of}
use Rattle.sp_msg.specs.declared.effect.Effect.{Effect}
use Rattle.sp_msg.specs.declared.kept.Kept.{Kept}
use Rattle.sp_rules.specs.Arrivals.{after_datagram, arrival_at, before_document, document_at, document_in, document_where, greeted, handled, has_risen}
use Rattle.sp_rules.specs.Arrivals.{heard_after, heeded, link_after, pieces_beside, pieces_in, pieces_where, read_by, reply_at, sections_in}
use Rattle.sp_rules.specs.Documents.{after_publish, document_answer, publish_effects}
use Rattle.sp_rules.specs.Handle.{Handled, handle_all}
use Rattle.sp_rules.specs.Link.{Link}
use Rattle.sp_rules.specs.Node.{NodeState, call_refusal, called, kept_or, link_in, with_link}
use Rattle.sp_rules.specs.Parts.{Fixed, Parts}
use Rattle.sp_rules.specs.Pieces.{Piece, pieces_of}
use Rattle.sp_rules.specs.Steps.{Arrived, Output, arrived, document_adopted, document_effects, document_items, refused_call}
use Rattle.sp_rules.specs.Versions.{Heard}
use Rattle.sp_rules.specs.declared.answers.Item.{Item}
use Rattle.sp_rules.specs.declared.answers.Item.TheVariants as items
use Rattle.sp_rules.specs.declared.node.LinkReply.{LinkReply}
use Rattle.sp_rules.specs.declared.node.LinkReply.TheVariants as replies
use Rattle.sp_rules.specs.declared.node.NodeRefused.{NodeRefused}
use Rattle.sp_rules.specs.declared.node.Step.{Step}
use Rattle.sp_rules.specs.declared.node.Taken.{Taken}
use Rattle.sp_node.specs.Calls.{Datagrams}

-- ---- what is answered, and what is left

abbrev firsts : List (Kept × Item) → List Item
firsts answered = map (λ (a : Kept × Item). a.1) answered

output_is : (n : NodeState) (v : NodeId) (bytes : List ℕ) (reply : LinkReply) (given : List Item) (effects : List Effect) → call_refusal n v ≡ None
    → let arts = format_of n.fixed in
    let done = handled arts n v bytes in
    let before = before_document arts n v bytes in
    let document = document_at arts n v bytes in
    reply ≡ reply_at arts n v bytes → given ≡ firsts done.answered ++ document_items arts before document
    → effects ≡ done.effects ++ document_effects arts before document
    → (record { reply = Arrived reply given; effects = effects; answered = done.answered; adopted = document_adopted arts before document })
    ≡ refused_call (call_refusal n v) (arrived arts n v bytes)
output_is n v bytes reply given effects free reply_is items_are effects_are =
    let arts = format_of n.fixed in
    let done = handled arts n v bytes in
    let before = before_document arts n v bytes in
    let document = document_at arts n v bytes in
    let answer : LinkReply → List Item → List Effect → Output = λ r is es. record {
      reply = Arrived r is;
      effects = es;
      answered = done.answered;
      adopted = document_adopted arts before document;
    } in
    ap (λ (r : LinkReply). answer r given effects) reply_is
    ∙ ap (λ (is : List Item). answer (reply_at arts n v bytes) is effects) items_are
    ∙ ap (answer (reply_at arts n v bytes) (firsts done.answered ++ document_items arts before document)) effects_are
    ∙ sym (ap (λ (o : Option NodeRefused). refused_call o (arrived arts n v bytes)) free)

state_is : (n new : NodeState) (v : NodeId) (bytes : List ℕ) → call_refusal n v ≡ None
    → new ≡ read_by (format_of n.fixed) (before_document (format_of n.fixed) n v bytes) (document_at (format_of n.fixed) n v bytes)
    → new ≡ after_datagram (format_of n.fixed) n v bytes
state_is n new v bytes free is =
    let arts = format_of n.fixed in
    is ∙ sym (ap (λ (o : Option NodeRefused). kept_or o n (read_by arts (before_document arts n v bytes) (document_at arts n v bytes))) free)

-- the node before its document, by what the link, the pieces and the head left
abbrev left_by : NodeState → NodeId → Link → Parts → List Heard → NodeState
left_by n v link parts heard = record (called n (with_link n v link) parts) { heard = heard }

before_is : (n : NodeState) (v : NodeId) (bytes : List ℕ) (link : Link) (parts : Parts) (heard : List Heard)
    → link ≡ link_after (format_of n.fixed) n v bytes → parts ≡ (handled (format_of n.fixed) n v bytes).parts
    → heard ≡ heard_after (format_of n.fixed) n v bytes → left_by n v link parts heard ≡ before_document (format_of n.fixed) n v bytes
before_is n v bytes link parts heard link_is parts_are heard_is =
    let arts = format_of n.fixed in
    ap (λ (l : Link). left_by n v l parts heard) link_is
    ∙ ap (λ (p : Parts). left_by n v (link_after arts n v bytes) p heard) parts_are
    ∙ ap (left_by n v (link_after arts n v bytes) (handled arts n v bytes).parts) heard_is

handled_is : (n : NodeState) (v : NodeId) (bytes : List ℕ) (pieces : List Piece) (risen : Bool)
    → pieces ≡ pieces_where (reply_at (format_of n.fixed) n v bytes) (pieces_in n.fixed (sections_in (format_of n.fixed) n.fixed bytes))
    → risen ≡ has_risen (link_in n v) (link_after (format_of n.fixed) n v bytes)
    → handle_all (format_of n.fixed) (arrival_at n v) (greeted n.fixed.epochs risen v n.parts) pieces ≡ handled (format_of n.fixed) n v bytes
handled_is n v bytes pieces risen are rises =
    let arts = format_of n.fixed in
    ap (handle_all arts (arrival_at n v) (greeted n.fixed.epochs risen v n.parts)) are
    ∙ ap (λ (t : Bool). handle_all arts (arrival_at n v) (greeted n.fixed.epochs t v n.parts)
    (pieces_where (reply_at arts n v bytes) (pieces_in n.fixed (sections_in arts n.fixed bytes)))) rises

-- ---- without a document

pub arrived_so : (n new : NodeState) (v : NodeId) (bytes : List ℕ) (step : Step Taken) (pieces : List Piece) (risen : Bool) (link : Link) (heard : List Heard)
    (parts : Parts) → call_refusal n v ≡ None → document_at (format_of n.fixed) n v bytes ≡ None → step.reply.link ≡ reply_at (format_of n.fixed) n v bytes
    → pieces ≡ pieces_where (reply_at (format_of n.fixed) n v bytes) (pieces_in n.fixed (sections_in (format_of n.fixed) n.fixed bytes))
    → risen ≡ has_risen (link_in n v) (link_after (format_of n.fixed) n v bytes)
    → IsAdmitted (handle_all (format_of n.fixed) (arrival_at n v) (greeted n.fixed.epochs risen v n.parts) pieces) parts step.reply.items step.effects.list
    → link ≡ link_after (format_of n.fixed) n v bytes → heard ≡ heard_after (format_of n.fixed) n v bytes
    → new ≡ left_by n v link parts heard → Datagrams n v bytes (Ok step) new
arrived_so n new v bytes step pieces risen link heard parts free none reply are rises taken link_is heard_is is =
    let arts = format_of n.fixed in
    let done = handled arts n v bytes in
    let before = before_document arts n v bytes in
    let handles = handled_is n v bytes pieces risen are rises in (
      output_is n v bytes step.reply.link step.reply.items step.effects.list free reply
          (taken.items ∙ ap (λ (h : Handled). firsts h.answered) handles ∙ sym (append-nil (firsts done.answered))
          ∙ ap (λ (o : Option (List ℕ)). firsts done.answered ++ document_items arts before o) (sym none))
          (taken.effects ∙ ap (λ (h : Handled). h.effects) handles ∙ sym (append-nil done.effects)
          ∙ ap (λ (o : Option (List ℕ)). done.effects ++ document_effects arts before o) (sym none)),
      state_is n new v bytes free
          (is ∙ before_is n v bytes link parts heard link_is (taken.parts ∙ ap (λ (h : Handled). h.parts) handles) heard_is
          ∙ ap (read_by arts before) (sym none)),
    )

-- ---- with one

-- nothing else is handled then
pub none_beside : (f : Fixed) (reply : LinkReply) (read : Result Contents SectionRefused) (d : List ℕ) → document_where reply (document_in read) ≡ Some d
    → pieces_where reply (pieces_in f read) ≡ []
none_beside f replies.TooLong read d e = absurd (cc)
none_beside f (replies.Short short) read d e = absurd (cc)
none_beside f replies.Magic read d e = absurd (cc)
none_beside f replies.Version read d e = absurd (cc)
none_beside f replies.NotForMe read d e = absurd (cc)
none_beside f replies.BadTag read d e = absurd (cc)
none_beside f (replies.Learned boot) read d e = absurd (cc)
none_beside f (replies.Stale boot counter) read d e = absurd (cc)
none_beside f (replies.OtherTopology theirs) read d e = absurd (cc)
none_beside f (replies.Section refused) read d e = absurd (cc)
none_beside f replies.Withdrawn read d e = absurd (cc)
none_beside f replies.Fresh (Err refused) d e = absurd (cc)
none_beside f replies.Fresh (Ok contents) d e = ap (λ (o : Option (List ℕ)). pieces_beside o (pieces_of (heeded f contents))) e

pub read_so : (n new : NodeState) (v : NodeId) (bytes document : List ℕ) (step : Step Taken) (risen : Bool) (link : Link) (heard : List Heard)
    → call_refusal n v ≡ None → document_at (format_of n.fixed) n v bytes ≡ Some document → step.reply.link ≡ reply_at (format_of n.fixed) n v bytes
    → risen ≡ has_risen (link_in n v) (link_after (format_of n.fixed) n v bytes) → link ≡ link_after (format_of n.fixed) n v bytes
    → heard ≡ heard_after (format_of n.fixed) n v bytes
    → step.reply.items ≡ items.Document (document_answer (format_of n.fixed) n document) ∷ []
    → step.effects.list ≡ publish_effects (format_of n.fixed) (left_by n v link (greeted n.fixed.epochs risen v n.parts) heard) document
    → new ≡ after_publish (format_of n.fixed) (left_by n v link (greeted n.fixed.epochs risen v n.parts) heard) document → Datagrams n v bytes (Ok step) new
read_so n new v bytes document step risen link heard free one reply rises link_is heard_is given told is =
    let arts = format_of n.fixed in
    let met = greeted n.fixed.epochs risen v n.parts in
    let before = before_document arts n v bytes in
    let none = none_beside n.fixed (reply_at arts n v bytes) (sections_in arts n.fixed bytes) document one in
    let handles = handled_is n v bytes [] risen (sym none) rises in
    let same = before_is n v bytes link met heard link_is (ap (λ (h : Handled). h.parts) handles) heard_is in (
      output_is n v bytes step.reply.link step.reply.items step.effects.list free reply
          (given ∙ ap (λ (h : Handled). firsts h.answered ++ document_items arts before (Some document)) handles
          ∙ ap (λ (o : Option (List ℕ)). firsts (handled arts n v bytes).answered ++ document_items arts before o) (sym one))
          (told ∙ ap (λ (m : NodeState). publish_effects arts m document) same
          ∙ ap (λ (h : Handled). h.effects ++ document_effects arts before (Some document)) handles
          ∙ ap (λ (o : Option (List ℕ)). (handled arts n v bytes).effects ++ document_effects arts before o) (sym one)),
      state_is n new v bytes free
          (is ∙ ap (λ (m : NodeState). after_publish arts m document) same ∙ ap (read_by arts before) (sym one)),
    )
