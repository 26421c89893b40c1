-- The rows of the weights stay sound: at the start, where an update is put into one, and under other minima.
use Rattle.std.proofs.Common.{◌≡◌, ℕ, ◌*◌, ◌<◌, ◌≤◌, zero, suc, Bool, true, false, List, ◌∷◌, length, map, set, replicate, Option, Some, None, refl, sym, ap}
use Rattle.std.proofs.Common.{◌∙◌, arith}
use Rattle.std.specs.Prelude.{is_some, slice_index_or}
use Rattle.std.proofs.lemmas.List.{length-map, length-replicate, length-set, map-set}
use Rattle.std.proofs.lemmas.List.Elements.{All-replicate, All-set}
use Rattle.sp_base.specs.declared.limits.TheConstants.{MAX_EDGES_2, MAX_SEQ}
use Rattle.sp_msg.proofs.GoodFields.{good_weight}
use Rattle.sp_rules.specs.Changes.{FitsAFormat}
use Rattle.sp_msg.specs.declared.body.Body.{Body}
use Rattle.sp_msg.specs.declared.body.Body.TheVariants as bodies
use Rattle.sp_msg.specs.declared.kept.Kept.{Kept}
use Rattle.sp_topology.specs.declared.topology.Edge.{Edge}
use Rattle.sp_rules.specs.Topologies.{weights_in}
use Rattle.sp_rules.specs.Weights.{seq_of, seq_said}
use Rattle.sp_weights.specs.Sound.{IsSound, effective_by}
use Rattle.sp_weights.proofs.EffectLemmas.{HasRow, everywhere, minima_in_effect, weights_with}

-- rows that hold nothing aren't active
pub none_active : (n : ℕ) → let nothing : Option Kept = None in replicate n false ≡ map is_some (replicate n nothing)
none_active zero = refl
none_active (suc n) = ap (λ rest. false ∷ rest) (none_active n)

pub sound_at_start : (edges : List Edge) (least : List ℕ) (rows : List (Option Kept)) (active : List Bool) (weights : List ℕ) (count : ℕ)
    → length edges ≤ MAX_EDGES_2 → count ≡ 2 * length edges → rows ≡ replicate count None → active ≡ replicate count false
    → least ≡ weights_in edges → weights ≡ least → IsSound (length edges) least rows active weights
sound_at_start edges least rows active weights count few enough none idle minima same = record {
  few = few;
  each_edge_has_a_minimum = ap length minima ∙ length-map edges (λ e. e.weight);
  each_end_has_a_row = ap length none ∙ length-replicate count None ∙ enough;
  active_rows = idle ∙ none_active count ∙ ap (λ held. map is_some held) (sym none);
  numbers = rw none (All-replicate (λ held. seq_of held ≤ MAX_SEQ) count None (omega arith));
  each_edge_has_a_weight = ap length (same ∙ minima) ∙ length-map edges (λ e. e.weight);
  in_effect = minima_in_effect least rows weights count none same;
}

-- a message with good fields says a number that may be
pub seq_in_range : (body : Body) → FitsAFormat body → seq_said body ≤ MAX_SEQ
seq_in_range (bodies.Prio p) good = omega arith
seq_in_range (bodies.Rel r) good = omega arith
seq_in_range (bodies.Ack a) good = omega arith
seq_in_range (bodies.Weight w) good = (good_weight good.0 w good.1).seq.1
seq_in_range (bodies.Krel a) good = omega arith
seq_in_range (bodies.Kack a) good = omega arith
seq_in_range (bodies.Epoch a) good = omega arith

-- a message with good fields is put into a row
pub sound_with : (edges : List Edge) (least : List ℕ) (rows : List (Option Kept)) (active : List Bool) (weights : List ℕ) (edge row weight : ℕ) (kept : Kept)
    → FitsAFormat kept.body → HasRow edges edge row → weight ≡ effective_by least (set rows row (Some kept)) edge
    → IsSound (length edges) least rows active weights
    → IsSound (length edges) least (set rows row (Some kept)) (set active row true) (set weights edge weight)
sound_with edges least rows active weights edge row weight kept good has is sound = record {
  few = sound.few;
  each_edge_has_a_minimum = sound.each_edge_has_a_minimum;
  each_end_has_a_row = length-set rows row (Some kept) ∙ sound.each_end_has_a_row;
  active_rows = ap (λ flags. set flags row true) sound.active_rows ∙ sym (map-set is_some rows row (Some kept));
  numbers = All-set (λ held. seq_of held ≤ MAX_SEQ) rows row (Some kept) (seq_in_range kept.body good) sound.numbers;
  each_edge_has_a_weight = length-set weights edge weight ∙ sound.each_edge_has_a_weight;
  in_effect = weights_with edges least rows weights edge row weight (Some kept) sound.each_edge_has_a_weight has is sound.in_effect;
}

-- the minima are others
pub sound_under : (edges : ℕ) (old least : List ℕ) (rows : List (Option Kept)) (active : List Bool) (before weights : List ℕ)
    → IsSound edges old rows active before
    → length least ≡ edges → length weights ≡ edges
    → ((edge : ℕ) → edge < edges → slice_index_or weights edge 0 ≡ effective_by least rows edge) → IsSound edges least rows active weights
sound_under edges old least rows active before weights sound minima many each = record {
  few = sound.few;
  each_edge_has_a_minimum = minima;
  each_end_has_a_row = sound.each_end_has_a_row;
  active_rows = sound.active_rows;
  numbers = sound.numbers;
  each_edge_has_a_weight = many;
  in_effect = everywhere least rows weights edges minima sound.each_end_has_a_row many each;
}
