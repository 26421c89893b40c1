-- A frame that a correct node made for a correct neighbour, whatever it carries and whatever version each of them runs under: what is read of it, what it makes
-- of the neighbour's link, and, where it has a document that is above the neighbour's, of the version that this one runs under.
use Rattle.std.proofs.Common.{◌≡◌, ◌<◌, ◌≤◌, ℕ, ◌+◌, Bool, true, false, cond, max, List, Option, Some, None, Ok, refl, sym, ap, subst, ◌∙◌, arith}
use Rattle.std.specs.Prelude.{IfSome, IsTrue, nat_lt, slice_get}
use Rattle.std.proofs.lemmas.Bool.Decides.{nat_tests}
use Rattle.std.proofs.lemmas.List.Elements.{All-nil}
use Rattle.std.proofs.lemmas.Option.{same_Some}
use Rattle.sp_base.specs.declared.id.NodeId.{NodeId}
use Rattle.sp_frame.specs.Ranges.{IsContentsIn, IsHead}
use Rattle.sp_frame.specs.Sections.{Contents, with_document}
use Rattle.sp_frame.specs.declared.head.Head.{Head}
use Rattle.sp_topology.specs.declared.topology.Topology.{Topology}
use Rattle.sp_rules.specs.Arrivals.{after_datagram, link_says}
use Rattle.sp_rules.specs.Arts.{Arts, Document, is_right}
use Rattle.sp_rules.specs.Node.{NodeState, call_refusal, is_behind, is_shut_to, link_in, topology_now, version_of}
use Rattle.sp_rules.specs.Parts.{Fixed, changes}
use Rattle.sp_rules.specs.Pieces.{pieces_of}
use Rattle.sp_rules.specs.Polls.{contents_at, contents_to, frame_to, head_to, no_contents}
use Rattle.sp_rules.specs.Topologies.{succeeds, weights_in}
use Rattle.sp_rules.specs.declared.link.LinkAnswer.TheVariants as answers
use Rattle.laws_node.specs.Nodes.{FitsAFrame}
use Rattle.laws_node.proofs.Carried.{all_less, contents_kept}
use Rattle.laws_node.proofs.Frames.{frame_fits}
use Rattle.laws_node.proofs.Spreading.{offers_are_taken}
use Rattle.laws_runs.specs.Premises.{ComesThrough, HasGoodMessages, IsPlain, written}
use Rattle.laws_runs.specs.Signs.{Good, sizes_at}
use Rattle.laws_runs.specs.Versions.{Brings, IsPublished}
use Rattle.laws_runs.proofs.Adopted.{weights_under}
use Rattle.laws_runs.proofs.Goods.{all_of}
use Rattle.laws_runs.proofs.Ready.{Readied, readied_parts}
use Rattle.laws_runs.proofs.SignedEvents.{frame_back}
use Rattle.laws_runs.proofs.Signed.{of_setting, signs}
use Rattle.laws_runs.proofs.Versions.{follows_node}
use Rattle.sp_runs.specs.Runs.{Clean, is_hop}
use Rattle.sp_runs.specs.Settings.{Setting, SettingFits, may_change}
use Rattle.sp_runs.specs.Worlds.{World, frames_in, node_in}
use Rattle.sp_journal.specs.declared.entry.Entry.{Entry}
use Rattle.sp_schedule_events.specs.declared.event.Event.{Event}
use Rattle.laws_progress.specs.Spreading.{DocumentsBegin}
use Rattle.laws_progress.proofs.Becomes.{readied_keeps}
use Rattle.laws_progress.proofs.Framed.{Answers, answers_for}
use Rattle.laws_progress.proofs.Heads.{HeadIs, frame_head, head_range}
use Rattle.laws_progress.proofs.Keys.{link_is}
use Rattle.laws_progress.proofs.LinkKeys.{first_edge, keys_are, same_edge}
use Rattle.laws_progress.proofs.LinkRuns.{links_at}
use Rattle.laws_progress.proofs.Polls.{both_ways}
use Rattle.laws_progress.proofs.Rows.{link_there, rows_are}
use Rattle.laws_progress.proofs.States.{IsHop}

-- what is read of a frame that this node, which is u, makes for v
pub record Written (arts : Arts) (x : Setting) (u v : NodeId) (node : NodeState) (bytes : List ℕ) : Type 0 where
  pub head : HeadIs u v node.fixed.boot ((link_in node v).sent + 1) (arts.head bytes)
  pub version : (arts.head bytes).topology ≡ node.live.version
  pub echo : (arts.head bytes).echo ≡ (link_in node v).peer_boot
  pub opens : arts.opened bytes ≡ Ok bytes
  pub right : is_right arts (x.link_key (first_edge u v 0 x.topology.edges)) bytes ≡ true
  pub begins : is_behind node v ≡ true → IsTrue (arts.is_document bytes)

-- a frame opens whatever it carries, and one with a document begins so
opens_all : (arts : Arts) (format len : ℕ) → ComesThrough format arts len → DocumentsBegin format arts len → (h : Head) (key document : List ℕ)
    (turn : Contents) → IsHead h → h.format ≡ format → FitsAFrame document → IsPlain turn → HasGoodMessages arts turn
    → (behind shut : Bool) → IsContentsIn format len (cond behind (with_document document) (cond shut no_contents turn))
    → (arts.opened (written arts h (cond behind (with_document document) (cond shut no_contents turn)) key)
    ≡ Ok (written arts h (cond behind (with_document document) (cond shut no_contents turn)) key))
    × (behind ≡ true → IsTrue (arts.is_document (written arts h (cond behind (with_document document) (cond shut no_contents turn)) key)))
opens_all arts format len reads documents h key document turn range same room plain goods true shut fits =
    (reads.documents_open h document key range same fits room, λ on. documents h document key range same fits room)
opens_all arts format len reads documents h key document turn range same room plain goods false true fits = (
  reads.opens h no_contents key range same (record { document = refl; probe = refl }) fits (All-nil (λ o. IsTrue (arts.is_good o.body))),
  λ on. absurd (let f : false ≡ true = on in cc),
)
opens_all arts format len reads documents h key document turn range same room plain goods false false fits =
    (reads.opens h turn key range same plain fits goods, λ on. absurd (let f : false ≡ true = on in cc))

pub written_at : (arts : Arts) (x : Setting) (es : List Event) (js : List Entry) (w : World) → SettingFits arts x
    → ComesThrough x.topology.format arts x.signature_len → DocumentsBegin x.topology.format arts x.signature_len → Clean arts x es js w
    → (u v : NodeId) → is_hop x u v ≡ true → (n : NodeState) → node_in w.nodes u ≡ Some n → Written arts x u v n (frame_to arts n v)
written_at arts x es js w fits reads documents run u v hop n at =
    let is = (signs arts x es js w fits reads.carries run).nodes u n at in
    let fixed = is.fixed in
    let rows = rows_are arts x es js w fits reads.carries run u n at in
    let range = head_range x (Good arts x es js) u n v is.holds (link_there x u v n rows hop) in
    let h = head_to n v in
    let s = contents_at n v in
    let key = (link_in n v).key in
    let format : n.fixed.topology.format ≡ x.topology.format = ap (λ (f : Fixed). f.topology.format) fixed in
    let few : IsContentsIn x.topology.format x.signature_len s =
    subst (λ (f : Fixed). IsContentsIn f.topology.format f.signature_len s) fixed (frame_fits (sizes_at x (Good arts x es js) u) n v is.holds) in
    let kept = contents_kept (sizes_at x (Good arts x es js) u) n v is.holds in
    let turn = contents_to n.fixed n.parts v in
    let goods : HasGoodMessages arts turn =
    all_of (λ o. IsTrue (arts.is_good o.body)) (pieces_of turn)
    (all_less (Good arts x es js) (λ o. IsTrue (arts.is_good o.body)) (λ o is_it. is_it.good) (pieces_of turn) kept) in
    let read = reads.heads h s key range in
    let opened = opens_all arts x.topology.format x.signature_len reads documents h key n.live.document turn range format is.holds.live.document
    (record { document = refl; probe = refl }) goods (is_behind n v) (is_shut_to n v) few in
    record {
      head = frame_head arts x es js w fits reads.carries reads.heads run u v hop n at;
      version = ap (λ (g : Head). g.topology) read;
      echo = ap (λ (g : Head). g.echo) read;
      opens = opened.0;
      right = subst (λ k. is_right arts k (written arts h s key) ≡ true) (keys_are arts x es js w fits reads.carries run u v hop n at)
          (reads.tags_are_right h s key);
      begins = opened.1;
    }

-- ---- what the link of v says of it

pub says_at : (arts : Arts) (x : Setting) (es : List Event) (js : List Entry) (w : World) → SettingFits arts x
    → ComesThrough x.topology.format arts x.signature_len → Clean arts x es js w
    → (u v : NodeId) → IsHop x u v → (b n : NodeState) → node_in w.nodes v ≡ Some b → Readied x w b n → (node : NodeState) (bytes : List ℕ)
    → Written arts x u v node bytes → Answers (link_in n u) (arts.head bytes) (is_right arts (link_in n u).key bytes) n.fixed.boot
says_at arts x es js w fits reads run u v hop b n at readied node bytes f =
    let back = both_ways x u v hop in
    let link = links_at arts x es js w fits reads.carries run v u back.joined b at in
    let key : (link_in b u).key ≡ x.link_key (first_edge u v 0 x.topology.edges) =
    keys_are arts x es js w fits reads.carries run v u back.joined b at ∙ ap (λ e. x.link_key e) (same_edge v u 0 x.topology.edges) in
    let right : is_right arts (link_in b u).key bytes ≡ true = ap (λ k. is_right arts k bytes) key ∙ f.right in
    readied_keeps x w b n (λ q. Answers (link_in q u) (arts.head bytes) (is_right arts (link_in q u).key bytes) q.fixed.boot) (λ upto h. h) readied
    (answers_for (link_in b u) (arts.head bytes) (is_right arts (link_in b u).key bytes) u v b.fixed.boot f.head.from f.head.to (link_is b u) link.me
    link.boot_is right)

-- ---- what its document makes of v

-- what stands in turn for a neighbour that is behind
carries_document : (n : NodeState) (v : NodeId) → is_behind n v ≡ true → (contents_at n v).document ≡ Some n.live.document
carries_document n v behind =
    ap (λ (t : Bool). (cond t (with_document n.live.document) (cond (is_shut_to n v) no_contents (contents_to n.fixed n.parts v))).document) behind

pub behind_is : (n : NodeState) (v : NodeId) → changes n.fixed ≡ true → 1 ≤ version_of n v → version_of n v < n.live.version → is_behind n v ≡ true
behind_is n v may known less =
    let one : nat_lt 0 (version_of n v) ≡ true = grind (arith, nat_tests, known) in
    let two : nat_lt (version_of n v) n.live.version ≡ true = grind (arith, nat_tests, less) in
    rw (may, one, two) refl

-- u made the frame in world w, and it stands among its frames in world y, in which v meets it
pub document_taken : (arts : Arts) (x : Setting) (es : List Event) (js : List Entry) (w : World) (fs : List Event) (ks : List Entry) (y : World)
    → SettingFits arts x → ComesThrough x.topology.format arts x.signature_len → may_change x ≡ true → Clean arts x es js w → Clean arts x fs ks y
    → (u v : NodeId) (n : NodeState) → node_in w.nodes u ≡ Some n → (place : ℕ) → slice_get (frames_in y.directions u v) place ≡ Some (Some (frame_to arts n v))
    → (b q : NodeState) → node_in y.nodes v ≡ Some b → Readied x y b q → is_behind n v ≡ true → call_refusal q u ≡ None
    → arts.opened (frame_to arts n v) ≡ Ok (frame_to arts n v) → IsTrue (arts.is_document (frame_to arts n v))
    → link_says arts (link_in q u) (frame_to arts n v) ≡ answers.Fresh
    → (after_datagram arts q u (frame_to arts n v)).live.version ≡ max q.live.version n.live.version
document_taken arts x es js w fs ks y fits reads may run later u v n at place placed b q there readied behind called opened begins fresh =
    let h = signs arts x es js w fits reads.carries run in
    let g = signs arts x fs ks y fits reads.carries later in
    let P = Good arts x es js in
    let Q = Good arts x fs ks in
    let is = h.nodes u n at in
    let its = g.nodes v b there in
    let held = (h.live u n at).held may in
    let bytes = frame_to arts n v in
    let version : held.document.topology.version ≡ n.live.version = ap (λ (t : Topology). t.version) held.topology in
    let read : arts.sections x.signature_len bytes ≡ Ok (contents_at n v) = frame_back arts x P (λ o is_it. is_it.good) n u v reads.carries is in
    let carried = carries_document n v behind in
    let brings : Brings arts x fs n.live.document =
    subst (λ (o : Option (List ℕ)). IfSome o (Brings arts x fs)) carried (g.documents u v place bytes (contents_at n v) placed read) in
    let same : brings.document ≡ held.document = same_Some brings.document held.document (sym brings.reads ∙ held.reads) in
    let out : IsPublished x fs n.live.version n.live.weights =
    subst (IsPublished x fs n.live.version) (weights_under x.topology.edges n.live.weights (of_setting x P u n is).2)
    (subst (λ (t : Topology). IsPublished x fs t.version (weights_in t.edges)) (ap (λ (d : Document). d.topology) same ∙ held.topology) brings.published) in
    let fixed : q.fixed ≡ b.fixed = (readied_parts x y b q readied).1 in
    let follows : b.live.version < held.document.topology.version → IsTrue (succeeds (topology_now b) held.document.topology) = λ below.
    subst (λ (t : Topology). IsTrue (succeeds (topology_now b) t)) (sym held.topology)
    (follows_node arts x fs Q v b n.live.version n.live.weights fits g.lists its (g.live v b there).published out (of_setting x P u n is).2
    (omega (arith, below, version))) in
    offers_are_taken arts q u bytes n.live.document held.document (record {
      called = called;
      opened = opened;
      fresh = fresh;
      begins = begins;
      contents = contents_at n v;
      sections = ap (λ (f : Fixed). arts.sections f.signature_len bytes) (fixed ∙ its.fixed) ∙ read;
      carried = carried;
      reads = held.reads;
      signed = subst (λ (key : List ℕ). IsTrue (arts.valid key held.document.message held.document.signature))
          (sym (ap (λ (f : Fixed). f.admin) fixed ∙ (of_setting x Q v b its).1)) held.signed;
      follows = readied_keeps x y b q (λ m. m.live.version < held.document.topology.version → IsTrue (succeeds (topology_now m) held.document.topology))
          (λ upto is_so. is_so) readied follows;
    })
    ∙ ap (max q.live.version) version
