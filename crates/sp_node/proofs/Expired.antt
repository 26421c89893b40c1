-- As many effects are told of what expired as there is.
use Rattle.std.proofs.Common.{◌≡◌, ◌∙◌, ℕ, ◌+◌, List, [], ◌∷◌, length, refl, sym, ap}
use Rattle.std.specs.Prelude.{sum_by}
use Rattle.std.specs.List.{flat_map}
use Rattle.std.proofs.lemmas.List.{length-append, length-map}
use Rattle.std.proofs.lemmas.List.Concat.{length-flat_map}
use Rattle.std.proofs.lemmas.List.Sums.{sum_by-cons}
use Rattle.sp_msg.specs.declared.effect.Effect.TheVariants as effects
use Rattle.sp_msg.specs.declared.effect.Why.TheVariants as whys
use Rattle.sp_rules.specs.Prio.{PrioState, expired_effects, expiring}
use Rattle.sp_rules.specs.PrioPeer as rows
use Rattle.sp_rules.specs.PrioPeer.{PrioPeer}
use Rattle.sp_rules.specs.Store.{Store, expired_entries}
use Rattle.sp_rules.specs.declared.store.Entry.{Entry}

one_store : (place : ℕ) (s : Store) (now : ℕ) → length (rows.expired_effects place s now) ≡ length (expired_entries s now)
one_store place s now = length-map (expired_entries s now) (λ (e : Entry). effects.Gone place e.id whys.Expired)

all_stores : (peers : List PrioPeer) (now : ℕ)
    → sum_by (λ (q : PrioPeer). length (rows.expired_effects q.peer q.store now)) peers ≡ sum_by (λ (q : PrioPeer). length (expired_entries q.store now)) peers
all_stores [] now = refl
all_stores (q ∷ peers) now =
    sum_by-cons (λ (p : PrioPeer). length (rows.expired_effects p.peer p.store now)) q peers
    ∙ ap (λ (m : ℕ). m + sum_by (λ (p : PrioPeer). length (rows.expired_effects p.peer p.store now)) peers) (one_store q.peer q.store now)
    ∙ ap (λ (m : ℕ). length (expired_entries q.store now) + m) (all_stores peers now)
    ∙ sym (sum_by-cons (λ (p : PrioPeer). length (expired_entries p.store now)) q peers)

pub expired_length : (s : PrioState) (now : ℕ) → length (expired_effects s now) ≡ expiring s now
expired_length s now =
    length-append (rows.expired_effects 0 s.inbox now) (flat_map (λ (q : PrioPeer). rows.expired_effects q.peer q.store now) s.peers)
    ∙ ap (λ (m : ℕ). m + length (flat_map (λ (q : PrioPeer). rows.expired_effects q.peer q.store now) s.peers)) (one_store 0 s.inbox now)
    ∙ ap (λ (m : ℕ). length (expired_entries s.inbox now) + m)
    (length-flat_map (λ (q : PrioPeer). rows.expired_effects q.peer q.store now) s.peers ∙ all_stores s.peers now)
