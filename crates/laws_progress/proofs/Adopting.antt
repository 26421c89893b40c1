-- What an event makes of the version that a node runs under: it never falls within a life, and who is removed stays removed. Where it stays, so do its weights.
use Rattle.std.proofs.Common.{◌≡◌, ◌≤◌, ◌⊎◌, true, false, List, Some, refl, sym, ap, subst, ◌∙◌, inl, inr, arith}
use Rattle.std.proofs.lemmas.Option.{same_Some}
use Rattle.sp_base.specs.declared.id.NodeId.{NodeId}
use Rattle.sp_rules.specs.Arts.{Arts}
use Rattle.sp_rules.specs.Node.{NodeState}
use Rattle.sp_rules.specs.Rel.{is_one_of}
use Rattle.sp_rules.specs.Versions.{Live}
use Rattle.sp_runs.specs.Runs.{Clean}
use Rattle.sp_runs.specs.Settings.{Setting, SettingFits}
use Rattle.sp_runs.specs.Worlds.{World, node_in}
use Rattle.sp_journal.specs.declared.entry.Entry.{Entry}
use Rattle.sp_schedule_events.specs.declared.event.Event.{Event}
use Rattle.laws_node.specs.Withdrawals.{Adopts, IsSized, RisesTo, removed_now}
use Rattle.laws_node.proofs.Changing.{only_the_administrator_changes, versions_rise}
use Rattle.laws_node.proofs.Withdrawing.{sized}
use Rattle.laws_runs.specs.Premises.{Carries}
use Rattle.laws_runs.specs.Signs.{Good, sizes_at}
use Rattle.laws_runs.proofs.Running.{found_there}
use Rattle.laws_runs.proofs.Signed.{signs}
use Rattle.laws_progress.proofs.Becomes.{Acts, Becomes, Begins, Remains, readied_keeps}

pub record Follows (old new : NodeState) : Type 0 where
  pub version : old.live.version ≤ new.live.version
  pub removed : (u : NodeId) → is_one_of (removed_now old) u ≡ true → is_one_of (removed_now new) u ≡ true
  pub live : new.live.version ≡ old.live.version → new.live.weights ≡ old.live.weights

pub same_follows : (n : NodeState) → Follows n n
same_follows n = record { version = omega arith; removed = λ u is. is; live = λ same. refl }

pub then_follows : (n m q : NodeState) → Follows n m → Follows m q → Follows n q
then_follows n m q one two = record {
  version = let a = one.version in let b = two.version in omega (arith, a, b);
  removed = λ u is. two.removed u (one.removed u is);
  live = λ same.
      let a = one.version in
      let b = two.version in
      two.live (omega (arith, a, b, same)) ∙ one.live (omega (arith, a, b, same));
}

changed : (arts : Arts) (n m : NodeState) → RisesTo n m → (m.live ≡ n.live) ⊎ Adopts arts n m → Follows n m
changed arts n m rise (inl same) =
    record { version = rise.version; removed = rise.removed; live = λ version. ap (λ (l : Live). l.weights) same }
changed arts n m rise (inr by) = record {
  version = rise.version;
  removed = rise.removed;
  live = λ version. absurd (let up = by.rises in omega (arith, up, version));
}

pub node_follows : (arts : Arts) (x : Setting) (es : List Event) (js : List Entry) (old new : World) (e : Event) (j : Entry) → SettingFits arts x
    → Carries x.topology.format arts → Clean arts x es js old → (u : NodeId) (b n : NodeState) → node_in old.nodes u ≡ Some b
    → Becomes arts x old e j new u n → Follows b n
node_follows arts x es js old new e j fits reads run u b n at (Remains c there readied why) =
    let same : c ≡ b = same_Some c b (sym there ∙ at) in
    subst (λ (q : NodeState). Follows q n) same
    (readied_keeps x old c n (Follows c) (λ upto h. record { version = h.version; removed = h.removed; live = h.live }) readied (same_follows c))
node_follows arts x es js old new e j fits reads run u b n at (Acts acts c there m readied after none) =
    let same : c ≡ b = same_Some c b (sym there ∙ at) in
    let is = (signs arts x es js old fits reads run).nodes u c there in
    let size = readied_keeps x old c m.node IsSized (λ upto h. record { weights = h.weights; me = h.me; on_paths = h.on_paths }) readied
    (sized (sizes_at x (Good arts x es js) u) c is.holds) in
    let first = readied_keeps x old c m.node (Follows c) (λ upto h. record { version = h.version; removed = h.removed; live = h.live }) readied
    (same_follows c) in
    let then_ = changed arts m.node m.after (versions_rise arts m.node m.input m.output m.after size m.step)
    (only_the_administrator_changes arts m.node m.input m.output m.after size m.step) in
    subst (λ (q : NodeState). Follows q n) same (subst (Follows c) (sym after) (then_follows c m.node m.after first then_))
node_follows arts x es js old new e j fits reads run u b n at (Begins on is start after none) =
    absurd (let f : true ≡ false = sym (found_there u b old.nodes at) ∙ none in cc)
