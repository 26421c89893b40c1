-- A frame that a correct node made for a correct neighbour passes each test there: its length, its ends, its tag, its topology and its sections.
use Rattle.sp_frame.specs.Sections.{Contents, with_document}
use Rattle.laws_progress.proofs.Versions.{served_contents}
use Rattle.laws_node.specs.Nodes.{FitsAFrame}
use Rattle.std.proofs.Common.{◌≡◌, ℕ, ◌+◌, ◌==◌, Bool, true, false, List, max, Some, Ok, refl, sym, ap, subst, ◌∙◌, inl, inr, Option, cond, None, Result, []}
use Rattle.std.proofs.Common.{◌⊎◌, not, ◌&&◌}
use Rattle.std.specs.Prelude.{IsTrue, is_none}
use Rattle.sp_base.specs.Cursor.{or_else}
use Rattle.sp_frame.specs.declared.refused.SectionRefused.{SectionRefused}
use Rattle.sp_rules.specs.Handle.{Arrival, handle_all}
use Rattle.std.proofs.lemmas.Bool.{cases_Bool, eq-eqb}
use Rattle.sp_base.specs.declared.id.NodeId.{NodeId}
use Rattle.sp_frame.specs.Ranges.{IsContentsIn, IsHead}
use Rattle.sp_frame.specs.declared.head.Head.{Head}
use Rattle.sp_rules.specs.Arts.{Arts, is_right}
use Rattle.sp_rules.proofs.ArrivalLemmas.{link_with, of_frame, of_link}
use Rattle.sp_rules.specs.Arrivals.{heeded, is_tagged, link_after, link_says, not_taken, or_fresh, pieces_in, pieces_where, reply_at, sections_in}
use Rattle.sp_rules.specs.Link.{Link, after_answer, is_above, link_answer, pair_of}
use Rattle.sp_rules.specs.Node.{NodeState, is_behind, is_shut_to, link_in}
use Rattle.sp_rules.specs.Parts.{Fixed, Parts}
use Rattle.sp_rules.specs.Pieces.{Piece, pieces_of}
use Rattle.sp_rules.specs.Polls.{contents_at, contents_to, frame_to, head_to, is_served, no_contents}
use Rattle.sp_rules.specs.declared.link.LinkAnswer.TheVariants as answers
use Rattle.sp_rules.specs.declared.node.LinkReply.{LinkReply}
use Rattle.sp_rules.specs.declared.node.LinkReply.TheVariants as replies
use Rattle.laws_node.proofs.Carried.{all_less, contents_kept}
use Rattle.laws_node.proofs.Frames.{frame_fits}
use Rattle.laws_runs.specs.Signs.{Good, sizes_at}
use Rattle.laws_runs.proofs.Goods.{all_of}
use Rattle.laws_runs.proofs.SignedEvents.{contents_keep}
use Rattle.laws_runs.proofs.Signed.{signs}
use Rattle.sp_runs.specs.Runs.{Clean, is_hop}
use Rattle.sp_runs.specs.Settings.{Setting, SettingFits}
use Rattle.sp_runs.specs.Worlds.{World, node_in}
use Rattle.sp_journal.specs.declared.entry.Entry.{Entry}
use Rattle.sp_schedule_events.specs.declared.event.Event.{Event}
use Rattle.laws_runs.specs.Premises.{ComesThrough, HasGoodMessages, written}
use Rattle.laws_progress.proofs.States.{IsHop}
use Rattle.laws_progress.proofs.Heads.{HeadIs, frame_head, head_range}
use Rattle.laws_progress.proofs.Keys.{link_is}
use Rattle.laws_progress.proofs.LinkKeys.{first_edge, keys_are, same_edge}
use Rattle.laws_progress.proofs.LinkRuns.{links_at}
use Rattle.laws_progress.proofs.Origins.{Origin}
use Rattle.laws_progress.proofs.Polls.{both_ways}
use Rattle.laws_progress.proofs.Rows.{link_there, rows_are}
use Rattle.sp_rules.specs.Parts.{flows_of}
use Rattle.sp_rules.specs.declared.kflow.FlowKind.{FlowKind}
use Rattle.sp_rules.specs.declared.kflow.FlowKind.TheVariants.{Plain, Paths}
use Rattle.laws_runs.proofs.KindFacts.{flows_same}
use Rattle.laws_progress.proofs.EitherKind.{slot_of_kind}

-- what is read of a frame that this node, which is u, makes for v
pub record Framed (arts : Arts) (x : Setting) (u v : NodeId) (node : NodeState) (bytes : List ℕ) : Type 0 where
  pub head : HeadIs u v node.fixed.boot ((link_in node v).sent + 1) (arts.head bytes)
  pub topology : (arts.head bytes).topology ≡ node.live.version
  pub echo : (arts.head bytes).echo ≡ (link_in node v).peer_boot
  pub sections : arts.sections x.signature_len bytes ≡ Ok (contents_at node v)
  pub opens : arts.opened bytes ≡ Ok bytes
  pub right : is_right arts (x.link_key (first_edge u v 0 x.topology.edges)) bytes ≡ true

-- each of the three kinds opens
opens_at : (arts : Arts) (x : Setting) → ComesThrough x.topology.format arts x.signature_len → (n : NodeState) (v : NodeId) → IsHead (head_to n v)
    → (head_to n v).format ≡ x.topology.format → FitsAFrame n.live.document → IsContentsIn x.topology.format x.signature_len (contents_at n v)
    → HasGoodMessages arts (contents_at n v) → arts.opened (frame_to arts n v) ≡ Ok (frame_to arts n v)
opens_at arts x reads n v range format room = go (is_behind n v) (is_shut_to n v)
  where
    key : List ℕ
    key = (link_in n v).key

    go : (a b : Bool)
        → IsContentsIn x.topology.format x.signature_len (cond a (with_document n.live.document) (cond b no_contents (contents_to n.fixed n.parts v)))
        → HasGoodMessages arts (cond a (with_document n.live.document) (cond b no_contents (contents_to n.fixed n.parts v)))
        → arts.opened (written arts (head_to n v) (cond a (with_document n.live.document) (cond b no_contents (contents_to n.fixed n.parts v))) key)
        ≡ Ok (written arts (head_to n v) (cond a (with_document n.live.document) (cond b no_contents (contents_to n.fixed n.parts v))) key)
    go true b few goods = reads.documents_open (head_to n v) n.live.document key range format few room
    go false true few goods = reads.opens (head_to n v) no_contents key range format (record { document = refl; probe = refl }) few goods
    go false false few goods =
        reads.opens (head_to n v) (contents_to n.fixed n.parts v) key range format (record { document = refl; probe = refl }) few goods

pub frame_at : (arts : Arts) (x : Setting) (es : List Event) (js : List Entry) (w : World) → SettingFits arts x
    → ComesThrough x.topology.format arts x.signature_len → Clean arts x es js w
    → (u v : NodeId) → is_hop x u v ≡ true → (n : NodeState) → node_in w.nodes u ≡ Some n → Framed arts x u v n (frame_to arts n v)
frame_at arts x es js w fits reads run u v hop n at =
    let is = (signs arts x es js w fits reads.carries run).nodes u n at in
    let fixed = is.fixed in
    let rows = rows_are arts x es js w fits reads.carries run u n at in
    let range = head_range x (Good arts x es js) u n v is.holds (link_there x u v n rows hop) in
    let l = link_in n v in
    let h = head_to n v in
    let format : n.fixed.topology.format ≡ x.topology.format = ap (λ (f : Fixed). f.topology.format) fixed in
    let s = contents_at n v in
    let few : IsContentsIn x.topology.format x.signature_len s =
    subst (λ (f : Fixed). IsContentsIn f.topology.format f.signature_len s) fixed (frame_fits (sizes_at x (Good arts x es js) u) n v is.holds) in
    let kept = contents_keep (Good arts x es js) n v (contents_kept (sizes_at x (Good arts x es js) u) n v is.holds) in
    let goods : HasGoodMessages arts s =
    all_of (λ o. IsTrue (arts.is_good o.body)) (pieces_of s)
    (all_less (Good arts x es js) (λ o. IsTrue (arts.is_good o.body)) (λ o is_it. is_it.good) (pieces_of s) kept) in
    let read = reads.heads h s l.key range in
    record {
      head = frame_head arts x es js w fits reads.carries reads.heads run u v hop n at;
      topology = ap (λ (g : Head). g.topology) read;
      echo = ap (λ (g : Head). g.echo) read;
      sections = reads.carries.back x.signature_len h s l.key format few goods;
      opens = opens_at arts x reads n v range format is.holds.live.document few goods;
      right = subst (λ k. is_right arts k (written arts h s l.key) ≡ true) (keys_are arts x es js w fits reads.carries run u v hop n at)
          (reads.tags_are_right h s l.key);
    }

pub framed : (arts : Arts) (x : Setting) → SettingFits arts x → ComesThrough x.topology.format arts x.signature_len → (es : List Event) (u v : NodeId)
    (number : ℕ) → is_hop x u v ≡ true → (bytes : List ℕ) → (o : Origin arts x es u v number bytes) → Framed arts x u v o.node bytes
framed arts x fits reads es u v number hop bytes o =
    subst (Framed arts x u v o.node) (sym o.is) (frame_at arts x o.events o.journal o.world fits reads o.run u v hop o.node o.there)

-- what it carries, where it carries what is in turn
pub served_sections : (arts : Arts) (x : Setting) (u v : NodeId) (node : NodeState) (bytes : List ℕ) → Framed arts x u v node bytes → is_served node v ≡ true
    → arts.sections x.signature_len bytes ≡ Ok (contents_to node.fixed node.parts v)
served_sections arts x u v node bytes f on = f.sections ∙ ap Ok (served_contents node v on)

-- ---- what becomes of it at the link of v

pub data Answers (l : Link) (h : Head) (right : Bool) (mine : ℕ) : Type 0 where
  Learn : (h.echo == mine) ≡ false → link_answer l h right ≡ answers.Learned (max l.peer_boot h.boot) → Answers l h right mine
  Late : (h.echo == mine) ≡ true → is_above (pair_of h) l.seen ≡ false → link_answer l h right ≡ answers.Stale l.seen.0 l.seen.1 → Answers l h right mine
  Take : (h.echo == mine) ≡ true → is_above (pair_of h) l.seen ≡ true → link_answer l h right ≡ answers.Fresh → Answers l h right mine

pub answers_for : (l : Link) (h : Head) (right : Bool) (u v : NodeId) (mine : ℕ) → h.from ≡ u → h.to ≡ v → l.peer ≡ u → l.me ≡ v → l.boot ≡ mine → right ≡ true
    → Answers l h right mine
answers_for l h right u v mine sender end peer me boot r =
    let from : (h.from.0 == l.peer.0) ≡ true = eq-eqb _ _ (ap (λ (n : NodeId). n.0) (sender ∙ sym peer)) in
    let to : (h.to.0 == l.me.0) ≡ true = eq-eqb _ _ (ap (λ (n : NodeId). n.0) (end ∙ sym me)) in
    let echo : (h.echo == l.boot) ≡ (h.echo == mine) = ap (λ b. h.echo == b) boot in
    elim (cases_Bool (h.echo == mine)) [
      | inr off ↦ let no : (h.echo == l.boot) ≡ false = echo ∙ off in Learn off (rw (from, to, r, no) refl)
      | inl on ↦
          let yes_ : (h.echo == l.boot) ≡ true = echo ∙ on in
          elim (cases_Bool (is_above (pair_of h) l.seen)) [
            | inl above ↦ Take on above (rw (from, to, r, yes_, above) refl)
            | inr below ↦ Late on below (rw (from, to, r, yes_, below) refl)
          ]
    ]

pub data Came (arts : Arts) (n : NodeState) (u : NodeId) (bytes : List ℕ) : Type 0 where
  Learns : ((arts.head bytes).echo == n.fixed.boot) ≡ false
      → link_after arts n u bytes ≡ after_answer (link_in n u) (arts.head bytes) (answers.Learned (max (link_in n u).peer_boot (arts.head bytes).boot))
      → reply_at arts n u bytes ≡ replies.Learned (max (link_in n u).peer_boot (arts.head bytes).boot) → Came arts n u bytes
  Too_late : ((arts.head bytes).echo == n.fixed.boot) ≡ true → is_above (pair_of (arts.head bytes)) (link_in n u).seen ≡ false
      → link_after arts n u bytes ≡ link_in n u
      → reply_at arts n u bytes ≡ replies.Stale (link_in n u).seen.0 (link_in n u).seen.1 → Came arts n u bytes
  Taken : ((arts.head bytes).echo == n.fixed.boot) ≡ true → is_above (pair_of (arts.head bytes)) (link_in n u).seen ≡ true
      → link_after arts n u bytes ≡ after_answer (link_in n u) (arts.head bytes) answers.Fresh
      → reply_at arts n u bytes
      ≡ or_fresh (not_taken n.live.version (arts.head bytes).topology (arts.is_document bytes) (sections_in arts n.fixed bytes) (is_shut_to n u))
      → Came arts n u bytes

pub came : (arts : Arts) (x : Setting) (es : List Event) (js : List Entry) (w : World) → SettingFits arts x
    → ComesThrough x.topology.format arts x.signature_len → Clean arts x es js w
    → (u v : NodeId) → IsHop x u v → (n : NodeState) → node_in w.nodes v ≡ Some n → (node : NodeState) (bytes : List ℕ)
    → Framed arts x u v node bytes → Came arts n u bytes
came arts x es js w fits reads run u v hop n at node bytes f =
    let back = both_ways x u v hop in
    let link = links_at arts x es js w fits reads.carries run v u back.joined n at in
    let l = link_in n u in
    let h = arts.head bytes in
    let right = is_right arts l.key bytes in
    let key : l.key ≡ x.link_key (first_edge u v 0 x.topology.edges) =
    keys_are arts x es js w fits reads.carries run v u back.joined n at ∙ ap (λ e. x.link_key e) (same_edge v u 0 x.topology.edges) in
    let r : right ≡ true = ap (λ k. is_right arts k bytes) key ∙ f.right in
    let left : link_after arts n u bytes ≡ after_answer l h (link_answer l h right) = ap (link_with arts l bytes) f.opens in
    let rest : Option LinkReply = not_taken n.live.version h.topology (arts.is_document bytes) (sections_in arts n.fixed bytes) (is_shut_to n u) in
    let said : reply_at arts n u bytes
    ≡ of_link (link_answer l h right) (not_taken n.live.version h.topology (arts.is_document bytes) (sections_in arts n.fixed bytes) (is_shut_to n u)) =
    ap (of_frame arts n.fixed n.live.version (is_shut_to n u) l bytes) f.opens in
    elim (answers_for l h right u v n.fixed.boot f.head.from f.head.to (link_is n u) link.me link.boot_is r) [
      | Learn off a ↦ Learns off (left ∙ ap (after_answer l h) a) (said ∙ ap (λ z. of_link z rest) a)
      | Late on below a ↦ Too_late on below (left ∙ ap (after_answer l h) a) (said ∙ ap (λ z. of_link z rest) a)
      | Take on above a ↦ Taken on above (left ∙ ap (after_answer l h) a) (said ∙ ap (λ z. of_link z rest) a)
    ]

-- its tag is right there
pub tagged_at : (arts : Arts) (x : Setting) (es : List Event) (js : List Entry) (w : World) → SettingFits arts x
    → ComesThrough x.topology.format arts x.signature_len → Clean arts x es js w
    → (u v : NodeId) → IsHop x u v → (n : NodeState) → node_in w.nodes v ≡ Some n → (node : NodeState) (bytes : List ℕ)
    → Framed arts x u v node bytes → is_tagged (link_says arts (link_in n u) bytes) ≡ true
tagged_at arts x es js w fits reads run u v hop n at node bytes f =
    let back = both_ways x u v hop in
    let link = links_at arts x es js w fits reads.carries run v u back.joined n at in
    let l = link_in n u in
    let h = arts.head bytes in
    let right = is_right arts l.key bytes in
    let key : l.key ≡ x.link_key (first_edge u v 0 x.topology.edges) =
    keys_are arts x es js w fits reads.carries run v u back.joined n at ∙ ap (λ e. x.link_key e) (same_edge v u 0 x.topology.edges) in
    let r : right ≡ true = ap (λ k. is_right arts k bytes) key ∙ f.right in
    elim (answers_for l h right u v n.fixed.boot f.head.from f.head.to (link_is n u) link.me link.boot_is r) [
      | Learn off a ↦ ap is_tagged a
      | Late on below a ↦ ap is_tagged a
      | Take on above a ↦ ap is_tagged a
    ]

-- what carries what is in turn is taken where both run under one version, over an edge that it doesn't withdraw
pub taken_reply : (arts : Arts) (x : Setting) (u v : NodeId) (node : NodeState) (bytes : List ℕ) → Framed arts x u v node bytes → is_served node v ≡ true
    → (n : NodeState) → n.fixed.signature_len ≡ x.signature_len → node.live.version ≡ n.live.version → is_shut_to n u ≡ false
    → or_fresh (not_taken n.live.version (arts.head bytes).topology (arts.is_document bytes) (sections_in arts n.fixed bytes) (is_shut_to n u)) ≡ replies.Fresh
taken_reply arts x u v node bytes f on n len same on_edge =
    let topology : ((arts.head bytes).topology == n.live.version) ≡ true = eq-eqb _ _ (f.topology ∙ same) in
    let sections : sections_in arts n.fixed bytes ≡ Ok (contents_to node.fixed node.parts v) =
    ap (λ k. arts.sections k bytes) len ∙ served_sections arts x u v node bytes f on in
    rw (topology, sections, on_edge) refl

-- ---- which pieces of it are handled

pub where_or : (r : LinkReply) (pieces : List Piece) → (pieces_where r pieces ≡ pieces) ⊎ (pieces_where r pieces ≡ [])
where_or replies.TooLong pieces = inr refl
where_or (replies.Short short) pieces = inr refl
where_or replies.Magic pieces = inr refl
where_or replies.Version pieces = inr refl
where_or replies.NotForMe pieces = inr refl
where_or replies.BadTag pieces = inr refl
where_or (replies.Learned boot) pieces = inr refl
where_or (replies.Stale boot counter) pieces = inr refl
where_or (replies.OtherTopology theirs) pieces = inr refl
where_or (replies.Section kind) pieces = inr refl
where_or replies.Withdrawn pieces = inr refl
where_or replies.Fresh pieces = inl refl

-- all of one without a document, or none, since it is of another version or its edge is withdrawn
pub read_or : (mine theirs : ℕ) (documents : Bool) (s : Result Contents SectionRefused) (shut : Bool) (contents : Contents) → s ≡ Ok contents
    → contents.document ≡ None
    → (or_fresh (not_taken mine theirs documents s shut) ≡ replies.Fresh)
    ⊎ (((ps : List Piece) → pieces_where (or_fresh (not_taken mine theirs documents s shut)) ps ≡ []) × (theirs ≡ mine → shut ≡ false → ⊥))
read_or mine theirs documents s shut contents is none =
    subst Reads (sym is) (of_contents (theirs == mine) refl documents contents.document none shut)
  where
    Says : LinkReply → Type 0
    Says r = (r ≡ replies.Fresh) ⊎ (((ps : List Piece) → pieces_where r ps ≡ []) × (theirs ≡ mine → shut ≡ false → ⊥))

    Reads : Result Contents SectionRefused → Type 0
    Reads r = Says (or_fresh (not_taken mine theirs documents r shut))

    of_contents : (same : Bool) → (theirs == mine) ≡ same → (d : Bool) (o : Option (List ℕ)) → o ≡ None → (z : Bool)
        → ((or_fresh (or_else (cond (not same && not d) (Some (replies.OtherTopology theirs)) None) (cond (z && is_none o) (Some replies.Withdrawn) None)))
        ≡ replies.Fresh)
        ⊎ (((ps : List Piece)
        → pieces_where
        (or_fresh (or_else (cond (not same && not d) (Some (replies.OtherTopology theirs)) None) (cond (z && is_none o) (Some replies.Withdrawn) None)))
        ps ≡ []) × (theirs ≡ mine → z ≡ false → ⊥))
    of_contents same e d (Some document) some z = absurd (let f : Some document ≡ None = some in cc)
    of_contents true e d None absent false = inl refl
    of_contents true e d None absent true = inr (λ ps. refl, λ same off. (let f : true ≡ false = off in cc))
    of_contents false e true None absent false = inl refl
    of_contents false e true None absent true = inr (λ ps. refl, λ same off. (let f : true ≡ false = off in cc))
    of_contents false e false None absent z =
        inr (λ ps. refl, λ same off. (let f : true ≡ false = sym (eq-eqb theirs mine same) ∙ e in cc))

-- what else a node makes for a neighbour leaves the boots that are held, and all that is known of flows
pub unserved : (arts : Arts) (n : NodeState) (v : NodeId) → is_served n v ≡ false → (f : Fixed) (at : Arrival) (p : Parts) (r : LinkReply)
    → ((handle_all arts at p (pieces_where r (pieces_in f (Ok (contents_at n v))))).parts.lives ≡ p.lives)
    × ((kind : FlowKind) → flows_of kind (handle_all arts at p (pieces_where r (pieces_in f (Ok (contents_at n v))))).parts ≡ flows_of kind p)
unserved arts n v off f at p r = go (is_behind n v) (is_shut_to n v) off
  where
    Leaves : List Piece → Type 0
    Leaves ps = ((handle_all arts at p ps).parts.lives ≡ p.lives) × ((kind : FlowKind) → flows_of kind (handle_all arts at p ps).parts ≡ flows_of kind p)

    here : (ps : List Piece) → Leaves ps → Leaves (pieces_where r ps)
    here ps h = elim (where_or r ps) [ inl same ↦ subst Leaves (sym same) h | inr none ↦ subst Leaves (sym none) (refl, λ kind. refl) ]

    empty : (t : Bool) → Leaves (pieces_of (cond t no_contents (record no_contents { epoch = None })))
    empty true = (refl, λ kind. flows_same kind p (handle_all arts at p (pieces_of no_contents)).parts refl refl)
    empty false = (refl, λ kind. flows_same kind p (handle_all arts at p (pieces_of (record no_contents { epoch = None }))).parts refl refl)

    go : (a b : Bool) → (not a && not b) ≡ false
        → Leaves (pieces_where r (pieces_in f (Ok (cond a (with_document n.live.document) (cond b no_contents (contents_to n.fixed n.parts v))))))
    go true b e = here [] (refl, λ kind. refl)
    go false true e = here (pieces_of (heeded f no_contents)) (empty f.epochs)
    go false false e = absurd (let g : true ≡ false = e in cc)

pub unserved_slot : (kind : FlowKind) (n : NodeState) (v : NodeId) → is_served n v ≡ false → slot_of_kind kind (contents_at n v) ≡ None
unserved_slot kind n v off = go (is_behind n v) (is_shut_to n v) off
  where
    none : (k : FlowKind) (c : Contents) → c.slot ≡ None → c.paths ≡ None → slot_of_kind k c ≡ None
    none Plain c slot paths = slot
    none Paths c slot paths = paths

    go : (a b : Bool) → (not a && not b) ≡ false
        → slot_of_kind kind (cond a (with_document n.live.document) (cond b no_contents (contents_to n.fixed n.parts v))) ≡ None
    go true b e = none kind (with_document n.live.document) refl refl
    go false true e = none kind no_contents refl refl
    go false false e = absurd (let g : true ≡ false = e in cc)
