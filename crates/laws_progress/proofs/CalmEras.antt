-- The era of a calm interval, and what stays of a run from its states on: what was signed, and its past.
use Rattle.laws_progress.proofs.Facts.{Goes}
use Rattle.laws_progress.proofs.States.{Era, Follow, Follows, State, Watched, seen_at}
use Rattle.laws_progress.proofs.Within.{is_in}
use Rattle.laws_runs.proofs.Determined.{past_is_determined}
use Rattle.laws_runs.specs.Past.{Happened, mover_in, past}
use Rattle.laws_runs.specs.Premises.{Carries}
use Rattle.sp_base.specs.declared.id.NodeId.{NodeId}
use Rattle.sp_journal.specs.declared.entry.Entry.{Entry}
use Rattle.sp_rules.specs.Arts.{Arts}
use Rattle.sp_rules.specs.Node.{link_in}
use Rattle.sp_runs.specs.Runs.{Clean, Turned, polls}
use Rattle.sp_runs.specs.Settings.{Setting, SettingFits}
use Rattle.sp_runs.specs.Worlds.{World, node_in}
use Rattle.sp_schedule_events.specs.declared.event.Event.{Event}
use Rattle.std.proofs.Common.{List, ap, append_assoc, subst, sym, true, ℕ, ◌++◌, ◌-◌, ◌∙◌, ◌∷◌, ◌≡◌, []}
use Rattle.std.proofs.lemmas.List.{append-nil}
use Rattle.laws_progress.proofs.Facts as facts
use Rattle.sp_rules.specs.declared.kflow.FlowKind.{FlowKind}
use Rattle.std.proofs.Common.{Bool}
use Rattle.sp_runs.specs.Forgery.{is_among}
use Rattle.sp_runs.specs.Told.{signed, signed_by, told_at}
use Rattle.laws_runs.proofs.Lists.{among_left, told_more}
use Rattle.laws_runs.proofs.SignedEvents.{even}
use Rattle.laws_progress.proofs.States.{Leads}

-- ---- what was signed stays so

-- in each later state
pub signed_on : (arts : Arts) (x : Setting) (all : List Event) (era : Era) (s : NodeId) (es : List Event) (w y : Watched arts x all era)
    → Goes (Watched arts x all era) (Leads arts x all era) w es y → (bytes : List ℕ) → is_among bytes (signed w.at.events w.at.journal s) ≡ true
    → is_among bytes (signed y.at.events y.at.journal s) ≡ true
signed_on arts x all era s [] w y facts.Stays bytes among = among
signed_on arts x all era s (e ∷ es) w y (facts.Steps {x = m} (Follow j events journal range turn unforged) g) bytes among =
    let more : signed m.at.events m.at.journal s ≡ signed w.at.events w.at.journal s ++ told_at s signed_by (e, j) =
    ap (λ zs. signed zs m.at.journal s) events ∙ ap (λ zs. signed (w.at.events ++ e ∷ []) zs s) journal
    ∙ told_more (told_at s signed_by) w.at.events w.at.journal e j (even arts x w.at.events w.at.journal w.at.world w.at.run) in
    signed_on arts x all era s es m y g bytes (subst (λ these. is_among bytes these ≡ true) (sym more)
    (among_left bytes (signed w.at.events w.at.journal s) (told_at s signed_by (e, j)) among))

-- ---- the era of a calm interval: the lives in which the nodes of the path run at its beginning

-- the counter of the last frame of u for v
abbrev pub sent_in : World → NodeId → NodeId → ℕ
sent_in w u v = seen_at 0 (λ n. (link_in n v).sent) (node_in w.nodes u)

-- of flows of a kind, with a window of numbers, and the edges over which the messages in it may go
abbrev pub era_of : FlowKind → (low high : ℕ) → (ℕ → Bool) → World → List NodeId → (version : ℕ) (weights : List ℕ) (a b : ℕ) → List Event → World → Era
era_of kind low high over w path version weights a b all end = record {
  kind = kind;
  low = low;
  high = high;
  over = over;
  on = is_in path;
  life = λ v. seen_at 0 (λ n. n.fixed.boot) (node_in w.nodes v);
  version = version;
  weights = weights;
  sboot = a;
  dboot = b;
  early = λ u v. polls all u v - sent_in end u v;
}

-- ---- the pasts of runs

-- events and journal alone determine it
pub past_same : (arts : Arts) (x : Setting) → SettingFits arts x → Carries x.topology.format arts
    → (fs : List Event) (ks : List Entry) (v : World) (other : Clean arts x fs ks v)
    → (es : List Event) (js : List Entry) (w : World) (run : Clean arts x es js w) → fs ≡ es → ks ≡ js → past arts x fs ks v other ≡ past arts x es js w run
past_same arts x fits reads fs ks v other es js w run events journal =
    let one : (r : Clean arts x es js v) → past arts x es js v r ≡ past arts x es js w run = λ r. past_is_determined arts x es js v w fits reads r run in
    let two : (r : Clean arts x es ks v) → past arts x es ks v r ≡ past arts x es js w run =
    subst (λ (J : List Entry). (r : Clean arts x es J v) → past arts x es J v r ≡ past arts x es js w run) (sym journal) one in
    (subst (λ (E : List Event). (r : Clean arts x E ks v) → past arts x E ks v r ≡ past arts x es js w run) (sym events) two) other

-- later events add to it
pub past_grows : (arts : Arts) (x : Setting) (all : List Event) → SettingFits arts x → Carries x.topology.format arts
    → (es : List Event) (w y : State arts x all)
    → Goes (State arts x all) (Follows arts x all) w es y
    → (more : List Happened) × (past arts x y.events y.journal y.world y.run ≡ past arts x w.events w.journal w.world w.run ++ more)
past_grows arts x all fits reads [] w y facts.Stays = ([], sym (append-nil (past arts x w.events w.journal w.world w.run)))
past_grows arts x all fits reads (e ∷ es) w y (facts.Steps {x = m} (Follow j events journal range turn unforged) g) =
    let rest = past_grows arts x all fits reads es m y g in
    let h : Happened = record { event = e; entry = j; mover = mover_in arts x w.world e j m.world turn } in
    let first : past arts x m.events m.journal m.world m.run ≡ past arts x w.events w.journal w.world w.run ++ h ∷ [] =
    past_same arts x fits reads m.events m.journal m.world m.run (w.events ++ e ∷ []) (w.journal ++ j ∷ []) m.world (Turned w.run range turn unforged) events
    journal in
    (h ∷ rest.0, rest.1 ∙ ap (λ zs. zs ++ rest.0) first ∙ append_assoc (past arts x w.events w.journal w.world w.run) (h ∷ []) rest.0)
