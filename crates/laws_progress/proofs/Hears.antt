-- A node hears a neighbour by its fresh frames alone, and heeds what the slot of the flow says.
use Rattle.laws_progress.proofs.LastBoots.{running_boot, without_epochs}
use Rattle.sp_rules.specs.Lives.{held_boot}
use Rattle.laws_progress.proofs.Known.{known_rises, after_is, above_boot}
use Rattle.laws_progress.proofs.Rises.{PartsGo, Goes_on, Begins_anew}
use Rattle.laws_progress.proofs.StepGoes.{step_go}
use Rattle.laws_runs.proofs.StartPieces.{greeted_lives}
use Rattle.laws_progress.proofs.Becomes.{readied_keeps}
use Rattle.std.specs.List.{list_any}
use Rattle.laws_runs.specs.Past.{holds}
use Rattle.sp_runs.specs.Lives.{ready}
use Rattle.std.proofs.Common.{◌≡◌, ◌≤◌, ◌⊎◌, ℕ, Bool, true, false, cond, max, List, [], None, Ok, Result}
use Rattle.std.proofs.Common.{refl, sym, ap, subst, ◌∙◌, inl, inr, arith, ◌==◌, not, ne_eqb}
use Rattle.std.specs.Prelude.{nat_lt, ◌&&◌, ◌||◌}
use Rattle.std.proofs.lemmas.Bool.{cases_eq, cases_lt, cases_Bool}
use Rattle.sp_base.specs.declared.id.Flow.{Flow}
use Rattle.sp_base.specs.declared.id.NodeId.{NodeId}
use Rattle.sp_frame.specs.Sections.{Contents}
use Rattle.sp_rules.specs.Arts.{Arts}
use Rattle.sp_rules.specs.Arrivals.{arrival_at, heeded, link_after, parts_met, pieces_in, pieces_where, reply_at, sections_in, has_risen, before_document}
use Rattle.sp_rules.specs.Arrivals.{document_at, document_in, document_where, not_taken, or_fresh, read_by}
use Rattle.sp_rules.specs.Handle.{handle_all}
use Rattle.sp_rules.specs.Link.{Link}
use Rattle.sp_rules.specs.Node.{NodeState, link_in, is_link, is_shut_to}
use Rattle.sp_rules.specs.Parts.{Fixed, Parts}
use Rattle.sp_rules.specs.Pieces.{Piece, pieces_of}
use Rattle.sp_rules.specs.Polls.{contents_at, contents_to, is_served}
use Rattle.sp_rules.specs.Rel.{RelState, is_peer, no_view, view_in, peer_in}
use Rattle.sp_rules.specs.Steps.{NodeStep, Datagram}
use Rattle.laws_runs.proofs.NoStarts.{pieces_at}
use Rattle.laws_runs.specs.Signs.{Good, NodeIs}
use Rattle.sp_runs.specs.Forgery.{has_forged_tag}
use Rattle.sp_runs.specs.Runs.{next_frame}
use Rattle.sp_runs.specs.Settings.{Setting, SettingFits}
use Rattle.sp_schedule_events.specs.declared.event.Event.{Event}
use Rattle.laws_runs.specs.Premises.{ComesThrough}
use Rattle.laws_progress.proofs.States.{Era, IsBetween, IsEra, IsHop, Watched, has_met, heard_of, in_era, in_life, knows_life, numbered, view_at}
use Rattle.laws_progress.proofs.Arrives.{Arrived, arrives}
use Rattle.laws_progress.proofs.Changes.{Acted, both_held, era_goes, holds_both, acted_is, not_over}
use Rattle.laws_progress.proofs.Versions.{SameKnown, read_known}
use Rattle.sp_rules.specs.declared.node.LinkReply.TheVariants as replies
use Rattle.sp_frame.specs.declared.refused.SectionRefused.{SectionRefused}
use Rattle.laws_progress.proofs.Greets.{greet_view}
use Rattle.laws_progress.proofs.Deaf.{NoHear, step_view}
use Rattle.laws_progress.proofs.Framed.{Came, Learns, Taken, Too_late, read_or, served_sections, unserved}
use Rattle.laws_progress.proofs.KnownRuns.{KnowsOf, knows_of}
use Rattle.laws_progress.proofs.Links.{LinkAfter, Rests, Sends, Hears, link_step}
use Rattle.laws_progress.proofs.Passes.{datagram_link, datagram_read}
use Rattle.laws_progress.proofs.Polls.{both_ways}
use Rattle.laws_progress.proofs.Rows.{link_there, peer_there, rows_are, RowsAre}
use Rattle.sp_rules.specs.Parts.{flows_of}
use Rattle.laws_progress.proofs.Meetings.{HandledAt, Met, PassedOver, SameHere, TakenAt, either_zero, hears_or, lt_off, lt_on}

module _ (arts : Arts) (x : Setting) (all : List Event) (era : Era) (flow : Flow) (fits : SettingFits arts x)
    (reads : ComesThrough x.topology.format arts x.signature_len)
    (is_era : IsEra x flow era) (w y : Watched arts x all era) (e : Event) (u v : NodeId) (hop : IsBetween x era u v) (a : Acted arts x all era w y e v)
    (first : in_life era v a.node ≡ true) (second : in_life era v a.after ≡ true) where
  abbrev n : NodeState
  n = a.node

  abbrev m : NodeState
  m = a.after

  pub back : IsHop x v u
  back = both_ways x u v hop.hop

  pub rows : RowsAre x v n
  rows = readied_keeps x w.at.world a.before a.node (RowsAre x v) (λ upto h. record { peers = h.peers; edges = h.edges; links = h.links; heard = h.heard })
      a.readied
      (rows_are arts x w.at.events w.at.journal w.at.world fits reads.carries w.at.run v a.before a.there)

  pub link_row : list_any (is_link u) n.links ≡ true
  link_row = link_there x v u n rows back.joined

  pub peer_row : list_any (is_peer u) (flows_of era.kind n.parts).peers ≡ true
  peer_row = peer_there era.kind x v u n rows back.joined

  pub is_of : NodeIs x (Good arts x w.at.events w.at.journal) v n
  is_of = acted_is arts x all era fits reads.carries w y e v a

  pub knows : KnowsOf x w.at.world v u (link_in n u)
  knows = readied_keeps x w.at.world a.before a.node (λ q. KnowsOf x w.at.world v u (link_in q u)) (λ upto h. h) a.readied
      (knows_of arts x w.at.events w.at.journal w.at.world fits reads.carries reads.heads w.at.run v u back a.before a.there)

  pub knows_later : KnowsOf x y.at.world v u (link_in m u)
  knows_later = knows_of arts x y.at.events y.at.journal y.at.world fits reads.carries reads.heads y.at.run v u back m a.left

  boots_go : PartsGo era.kind flow n.parts m.parts
  boots_go = step_go era.kind flow arts n a.input a.output m a.step (not_over arts x all era fits reads.carries flow is_era y v m a.left second)

  pub top_now : (link_in m u).peer_boot ≤ era.life u
  top_now = let low = knows_later.below in let top = y.latest u hop.first in omega (arith, low, top)

  -- what is known of the neighbour's boot never falls
  pub boot_goes : (link_in n u).peer_boot ≤ (link_in m u).peer_boot
  boot_goes = go (link_step arts x n a.input a.output m u (next_frame (ready x w.at.world e) e) a.entry.reply link_row a.step a.journal.reply)
    where
      go : LinkAfter arts n a.input m u → (link_in n u).peer_boot ≤ (link_in m u).peer_boot
      go (Rests q same) = let z = ap (λ (l : Link). l.peer_boot) same in omega (arith, z)
      go (Sends is same) = let z = ap (λ (l : Link). l.peer_boot) same in omega (arith, z)
      go (Hears bytes is same) =
          let z = ap (λ (l : Link). l.peer_boot) same in
          let up = (known_rises (link_in n u) (link_after arts n u bytes) (arts.head bytes) (reply_at arts n u bytes) knows.seen (after_is arts n u bytes)).1 in
          omega (arith, z, up)

  -- where the boots that count are not held, nothing is seen before, and nothing is known of a flow that begins
  pub view_off : holds n flow.src era.sboot flow.dst era.dboot ≡ false → view_at x era flow v u m ≡ view_at x era flow v u n
  view_off off = rw (first, off, second) (go boots_go (holds m flow.src era.sboot flow.dst era.dboot) refl)
    where
      go : PartsGo era.kind flow n.parts m.parts → (t : Bool) → holds m flow.src era.sboot flow.dst era.dboot ≡ t
          → cond (t && has_met x era u m) (view_in (peer_in (flows_of era.kind m.parts).peers u).views flow) (no_view flow) ≡ no_view flow
      go is false e = refl
      go (Goes_on src dst later) true e =
          let h = holds_both m flow.src flow.dst era.sboot era.dboot e in
          absurd (let f : true ≡ false = sym (both_held n flow.src flow.dst era.sboot era.dboot (sym src ∙ h.0) (sym dst ∙ h.1)) ∙ off in cc)
      go (Begins_anew rises none views) true e = either (has_met x era u m) (views u)
        where
          either : (t : Bool) → view_in (peer_in (flows_of era.kind m.parts).peers u).views flow ≡ no_view flow
              → cond t (view_in (peer_in (flows_of era.kind m.parts).peers u).views flow) (no_view flow) ≡ no_view flow
          either true is = is
          either false is = refl

  -- where they are, they stay
  pub boots_stay : holds n flow.src era.sboot flow.dst era.dboot ≡ true
      → (holds m flow.src era.sboot flow.dst era.dboot ≡ true) × (held_boot m.parts.lives flow.src ≡ held_boot n.parts.lives flow.src)
      × (held_boot m.parts.lives flow.dst ≡ held_boot n.parts.lives flow.dst)
  boots_stay held =
      let it = era_goes arts x all era fits reads.carries w y e flow is_era v n m a.left held boots_go in
      let before = holds_both n flow.src flow.dst era.sboot era.dboot held in
      let after = holds_both m flow.src flow.dst era.sboot era.dboot it.0 in
      (it.0, after.0 ∙ sym before.0, after.1 ∙ sym before.1)

  same_seen : (link_in m u).peer_boot ≡ (link_in n u).peer_boot → (link_in m u).seen ≡ (link_in n u).seen → heard_of era v u m ≡ heard_of era v u n
  same_seen boot seen =
      ap (λ b. cond (in_life era v m && (b == era.life u)) (numbered (era.early u v) (link_in m u).seen.1) 0) boot
      ∙ ap (λ (p : ℕ × ℕ). cond (in_life era v m && ((link_in n u).peer_boot == era.life u)) (numbered (era.early u v) p.1) 0) seen
      ∙ ap (λ t. cond (t && ((link_in n u).peer_boot == era.life u)) (numbered (era.early u v) (link_in n u).seen.1) 0) (second ∙ sym first)

  -- nothing comes from u
  pub deaf_quiet : NoHear u a.input → SameHere x era flow u v n m
  deaf_quiet quiet = of_link (link_step arts x n a.input a.output m u (next_frame (ready x w.at.world e) e) a.entry.reply link_row a.step a.journal.reply)
    where
      of_boots : (link_in m u).peer_boot ≡ (link_in n u).peer_boot → (link_in m u).seen ≡ (link_in n u).seen → SameHere x era flow u v n m
      of_boots boot seen = record {
        seen = same_seen boot seen;
        view = elim (cases_Bool (holds n flow.src era.sboot flow.dst era.dboot)) [
          | inr off ↦ view_off off
          | inl held ↦
              let stay = boots_stay held in
              let now = stay.0 in
              let view = step_view era.kind u flow (view_in (peer_in (flows_of era.kind n.parts).peers u).views flow) arts n a.input a.output m a.step stay.1
              stay.2 peer_row quiet
              refl in
              rw (first, second, held, now)
              (ap (λ b. cond (not x.epochs || (b == era.life u)) (view_in (peer_in (flows_of era.kind m.parts).peers u).views flow) (no_view flow)) boot
              ∙ ap (λ z. cond (has_met x era u n) z (no_view flow)) view)
        ];
      }

      of_link : LinkAfter arts n a.input m u → SameHere x era flow u v n m
      of_link (Rests q same) = of_boots (ap (λ (l : Link). l.peer_boot) same) (ap (λ (l : Link). l.seen) same)
      of_link (Sends is same) = of_boots (ap (λ (l : Link). l.peer_boot) same) (ap (λ (l : Link). l.seen) same)
      of_link (Hears bytes is same) = absurd ((subst (NoHear u) is quiet) refl)

  pub epochs_are : n.fixed.epochs ≡ x.epochs
  epochs_are = ap (λ (f : Fixed). f.epochs) is_of.fixed

  -- a datagram of u comes
  module _ (bytes : List ℕ) (came : a.input ≡ Datagram u bytes) where
    left : m ≡ read_by arts (before_document arts n u bytes) (document_at arts n u bytes)
    left =
        datagram_read arts x n u bytes a.output m (next_frame (ready x w.at.world e) e) a.entry.reply
        (subst (λ i. NodeStep arts n i a.output m) came a.step) a.journal.reply

    left_known : SameKnown (before_document arts n u bytes) m
    left_known = subst (SameKnown (before_document arts n u bytes)) (sym left) (read_known arts (before_document arts n u bytes) (document_at arts n u bytes))

    link_is_now : link_in m u ≡ link_after arts n u bytes
    link_is_now = datagram_link arts n m u bytes link_row left

    pub rise_now : (link_in n u).peer_boot ≤ (link_after arts n u bytes).peer_boot
    rise_now = (known_rises (link_in n u) (link_after arts n u bytes) (arts.head bytes) (reply_at arts n u bytes) knows.seen (after_is arts n u bytes)).1

    pub top_after : (link_after arts n u bytes).peer_boot ≤ era.life u
    top_after = subst (λ (l : Link). l.peer_boot ≤ era.life u) link_is_now top_now

    met_seen : cond (in_era era flow v n && (not x.epochs || ((link_after arts n u bytes).peer_boot == era.life u)))
        (view_in (peer_in (flows_of era.kind (parts_met arts n u bytes)).peers u).views flow) (no_view flow) ≡ view_at x era flow v u n
    met_seen = greet_view arts x era flow u v n bytes epochs_are peer_row rise_now top_after

    -- no piece of it that counts is handled
    abbrev Quiet : Type 0
    Quiet = (m.parts.lives ≡ (parts_met arts n u bytes).lives) × ((flows_of era.kind m.parts).peers ≡ (flows_of era.kind (parts_met arts n u bytes)).peers)

    view_met : Quiet → view_at x era flow v u m ≡ view_at x era flow v u n
    view_met quiet =
        let lives : m.parts.lives ≡ n.parts.lives = quiet.0 ∙ greeted_lives n.fixed.epochs (has_risen (link_in n u) (link_after arts n u bytes)) u n.parts in
        let here : in_era era flow v m ≡ in_era era flow v n =
        ap (λ t. t && holds m flow.src era.sboot flow.dst era.dboot) (second ∙ sym first)
        ∙ ap (λ ls. in_life era v n && ((held_boot ls flow.src == era.sboot) && (held_boot ls flow.dst == era.dboot))) lives in
        ap (λ t. cond (t && has_met x era u m) (view_in (peer_in (flows_of era.kind m.parts).peers u).views flow) (no_view flow)) here
        ∙ ap (λ (l : Link). cond (in_era era flow v n && (not x.epochs || (l.peer_boot == era.life u)))
        (view_in (peer_in (flows_of era.kind m.parts).peers u).views flow)
        (no_view flow)) link_is_now
        ∙ ap (λ ps. cond (in_era era flow v n && (not x.epochs || ((link_after arts n u bytes).peer_boot == era.life u)))
        (view_in (peer_in ps u).views flow) (no_view flow)) quiet.1
        ∙ met_seen

    no_pieces_left : ((ps : List Piece) → pieces_where (reply_at arts n u bytes) ps ≡ []) → Quiet
    no_pieces_left never =
        let none = ap (λ ps. (handle_all arts (arrival_at n u) (parts_met arts n u bytes) ps).parts)
        (never (pieces_in n.fixed (sections_in arts n.fixed bytes))) in
        (left_known.lives ∙ ap (λ (p : Parts). p.lives) none, left_known.peers era.kind ∙ ap (λ (p : Parts). (flows_of era.kind p).peers) none)

    -- of another life, or of none that is known
    off_seen : (q : NodeState) → ((link_in q u).peer_boot ≡ era.life u → ⊥) → heard_of era v u q ≡ 0
    off_seen q never = let t : ((link_in q u).peer_boot == era.life u) ≡ false = ne_eqb _ _ never in rw t (either (in_life era v q))
      where
        either : (t : Bool) → cond (t && false) (numbered (era.early u v) (link_in q u).seen.1) 0 ≡ 0
        either true = refl
        either false = refl

    met_of : (k : ℕ) (t : TakenAt arts x all era w u v n m k) → t.bytes ≡ bytes → (maker : NodeState) → t.arrived.from.node ≡ maker
        → HandledAt arts u v n m maker bytes ⊎ PassedOver arts x era flow u v n m maker bytes → Met arts x all era flow w u v n m k
    met_of k t same maker by h = record {
      it = t;
      left = subst (λ (q : NodeState). HandledAt arts u v n m q t.bytes ⊎ PassedOver arts x era flow u v n m q t.bytes) (sym by)
          (subst (λ bs. HandledAt arts u v n m maker bs ⊎ PassedOver arts x era flow u v n m maker bs) (sym same) h);
    }

    -- by what u made
    of_kind : (k : ℕ) (it : Arrived arts x w.at.events w.at.world u v n bytes k)
        → reply_at arts n u bytes
        ≡ or_fresh (not_taken n.live.version (arts.head bytes).topology (arts.is_document bytes) (sections_in arts n.fixed bytes) (is_shut_to n u))
        → (t : TakenAt arts x all era w u v n m k) → t.bytes ≡ bytes → t.arrived.from.node ≡ it.from.node → Met arts x all era flow w u v n m k
    of_kind k it reply t same by = elim (cases_Bool (is_served it.from.node v)) [
      | inr off ↦ met_of k t same it.from.node by (inr (record {
        view = view_met (unserved_left off);
        why = λ on version shut. (let f : true ≡ false = sym on ∙ off in cc);
      }))
      | inl served ↦ elim (read_or n.live.version (arts.head bytes).topology (arts.is_document bytes) (sections_in arts n.fixed bytes) (is_shut_to n u)
          (contents_to it.from.node.fixed it.from.node.parts v) (sections_are served) refl) [
            | inr never ↦ met_of k t same it.from.node by (inr (record {
              view = view_met (no_pieces_left (λ ps. ap (λ z. pieces_where z ps) reply ∙ never.0 ps));
              why = λ on version shut. never.1 version shut;
            }))
            | inl fresh ↦ met_of k t same it.from.node by (inl (record { served = served; parts = parts_are served (reply ∙ fresh) }))
          ]
    ]
      where
        sections_are : is_served it.from.node v ≡ true → sections_in arts n.fixed bytes ≡ Ok (contents_to it.from.node.fixed it.from.node.parts v)
        sections_are served =
            ap (λ (g : Fixed). sections_in arts g bytes) is_of.fixed ∙ served_sections arts x u v it.from.node bytes it.framed served

        unserved_left : is_served it.from.node v ≡ false → Quiet
        unserved_left off =
            let sections : sections_in arts n.fixed bytes ≡ Ok (contents_at it.from.node v) =
            ap (λ (g : Fixed). sections_in arts g bytes) is_of.fixed ∙ it.framed.sections in
            let none = unserved arts it.from.node v off n.fixed (arrival_at n u) (parts_met arts n u bytes) (reply_at arts n u bytes) in
            let of_parts = ap (λ (s : Result Contents SectionRefused).
            (handle_all arts (arrival_at n u) (parts_met arts n u bytes) (pieces_where (reply_at arts n u bytes) (pieces_in n.fixed s))).parts) sections in (
              left_known.lives ∙ ap (λ (p : Parts). p.lives) of_parts ∙ none.0,
              left_known.peers era.kind ∙ ap (λ (p : Parts). (flows_of era.kind p).peers) of_parts ∙ ap (λ (r : RelState). r.peers) (none.1 era.kind),
            )

        parts_are : is_served it.from.node v ≡ true → reply_at arts n u bytes ≡ replies.Fresh
            → m.parts
            ≡ (handle_all arts (arrival_at n u) (parts_met arts n u bytes)
            (pieces_of (heeded n.fixed (contents_to it.from.node.fixed it.from.node.parts v)))).parts
        parts_are served fresh =
            let sections = sections_are served in
            let document : document_at arts n u bytes ≡ None =
            ap (λ r. document_where r (document_in (sections_in arts n.fixed bytes))) fresh ∙ ap document_in sections in
            let pieces : pieces_at arts n u bytes ≡ pieces_of (heeded n.fixed (contents_to it.from.node.fixed it.from.node.parts v)) =
            ap (λ z. pieces_where z (pieces_in n.fixed (sections_in arts n.fixed bytes))) fresh ∙ ap (pieces_in n.fixed) sections in
            ap (λ (q : NodeState). q.parts) (left ∙ ap (read_by arts (before_document arts n u bytes)) document)
            ∙ ap (λ ps. (handle_all arts (arrival_at n u) (parts_met arts n u bytes) ps).parts) pieces

    of_came : (k : ℕ) → Arrived arts x w.at.events w.at.world u v n bytes k → Came arts n u bytes
        → SameHere x era flow u v n m ⊎ ((k : ℕ) × Met arts x all era flow w u v n m k)
    of_came k it (Learns off after reply) = inl (record {
      seen =
          let boot : (link_in m u).peer_boot ≡ max (link_in n u).peer_boot (arts.head bytes).boot = ap (λ (l : Link). l.peer_boot) (link_is_now ∙ after) in
          let seen_now = ap (λ (l : Link). l.seen) (link_is_now ∙ after) in
          elim (cases_lt (link_in n u).peer_boot (max (link_in n u).peer_boot (arts.head bytes).boot)) [
            | inr low ↦
                let f : nat_lt (link_in n u).peer_boot (max (link_in n u).peer_boot (arts.head bytes).boot) ≡ false = lt_off _ _ low in
                same_seen (boot ∙ (let z : max (link_in n u).peer_boot (arts.head bytes).boot ≡ (link_in n u).peer_boot = omega (arith, low) in z))
                (seen_now ∙ ap (λ t. cond t (max (link_in n u).peer_boot (arts.head bytes).boot, 0) (link_in n u).seen) f)
            | inl up ↦
                let t : nat_lt (link_in n u).peer_boot (max (link_in n u).peer_boot (arts.head bytes).boot) ≡ true = lt_on _ _ up in
                let zero : (link_in m u).seen.1 ≡ 0 =
                ap (λ (p : ℕ × ℕ). p.1) (seen_now ∙ ap (λ t. cond t (max (link_in n u).peer_boot (arts.head bytes).boot, 0) (link_in n u).seen) t) in
                let before : heard_of era v u n ≡ 0 = off_seen n (λ same. let top = top_now in omega (arith, same, up, boot, top)) in
                ap (λ c. cond (knows_life era v u m) (numbered (era.early u v) c) 0) zero ∙ either_zero (knows_life era v u m) ∙ sym before
          ];
      view = view_met (no_pieces_left (λ ps. ap (λ z. pieces_where z ps) reply));
    })
    of_came k it (Too_late on below after reply) = inl (record {
      seen = same_seen (ap (λ (l : Link). l.peer_boot) (link_is_now ∙ after)) (ap (λ (l : Link). l.seen) (link_is_now ∙ after));
      view = view_met (no_pieces_left (λ ps. ap (λ z. pieces_where z ps) reply));
    })
    of_came k it (Taken on above after reply) =
        let boot = ap (λ (l : Link). l.peer_boot) (link_is_now ∙ after) in
        elim (cases_eq (arts.head bytes).boot (era.life u)) [
          | inl life ↦ inr (
            k,
            of_kind k it reply (record {
              bytes = bytes;
              arrived = it;
              life = life;
              echo = on;
              above = above;
              boot = boot;
              seen = ap (λ (l : Link). l.seen) (link_is_now ∙ after);
              rise = rise_now;
              top = top_after;
              link = link_is_now;
            }) refl refl,
          )
          | inr other ↦
              let low = above_boot (arts.head bytes) (link_in n u) knows.seen above in
              let top = top_now in
              let after_off : heard_of era v u m ≡ 0 = off_seen m (λ same. other (sym boot ∙ same)) in
              let apart : (link_in n u).peer_boot ≡ era.life u → ⊥ =
              λ same. other (let z : (arts.head bytes).boot ≡ era.life u = omega (arith, same, low, boot, top) in z) in
              let on_epochs : x.epochs ≡ true = elim (cases_Bool x.epochs) [
                | inl t ↦ t
                | inr t ↦ absurd (other (it.framed.head.boot_is
                    ∙ running_boot arts x it.from.events it.from.journal it.from.world fits reads.carries it.from.run u it.from.node it.from.there
                    ∙ without_epochs x it.from.world u t ∙ sym (is_era.lone t u hop.first)))
              ] in
              inl (record {
                seen = after_off ∙ sym (off_seen n apart);
                view = unmet_view m (λ same. other (sym boot ∙ same)) on_epochs ∙ sym (unmet_view n apart on_epochs);
              })
        ]
      where
        unmet_view : (q : NodeState) → ((link_in q u).peer_boot ≡ era.life u → ⊥) → x.epochs ≡ true → view_at x era flow v u q ≡ no_view flow
        unmet_view q never on = let t : ((link_in q u).peer_boot == era.life u) ≡ false = ne_eqb _ _ never in rw (on, t) (either (in_era era flow v q))
          where
            either : (t : Bool) → cond (t && false) (view_in (peer_in (flows_of era.kind q.parts).peers u).views flow) (no_view flow) ≡ no_view flow
            either true = refl
            either false = refl

    of_datagram : SameHere x era flow u v n m ⊎ ((k : ℕ) × Met arts x all era flow w u v n m k)
    of_datagram =
        elim (arrives arts x w.at.events w.at.journal w.at.world e fits reads w.at.run u v hop.hop a.before n a.there
        a.readied bytes
        (subst (λ i. has_forged_tag arts x (ready x w.at.world e) n i ≡ false) came a.unforged)) [
          | inl untold ↦ inl (record {
            seen = same_seen (ap (λ (l : Link). l.peer_boot) (link_is_now ∙ untold.link)) (ap (λ (l : Link). l.seen) (link_is_now ∙ untold.link));
            view = view_met (no_pieces_left untold.pieces);
          })
          | inr it ↦ of_came it.0 it.1 it.1.came
        ]

  pub hearing : SameHere x era flow u v n m ⊎ ((k : ℕ) × Met arts x all era flow w u v n m k)
  hearing = elim (hears_or u a.input) [
    | inl quiet ↦ inl (deaf_quiet quiet)
    | inr came ↦ of_datagram came.0 came.1
  ]
