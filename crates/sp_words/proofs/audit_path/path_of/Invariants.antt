use Rattle.std.proofs.Common.{◌≡◌, ◌≤◌, map, take}
use Rattle.std.specs.Prelude.{All}
use Rattle.std.specs.Fmt.{decimal}
use Rattle.sp_words.proofs.audit_path.path_of.Given as goal

abbrev pub invariant-pieces : goal.invariant-pieces
invariant-pieces l = record {
  written : map (λ u. decimal u.0) l.path.items ≡ take l.place (map (λ w. w.now) l.pieces.items);
  range : All (λ u. u.0 ≤ 255) l.path.items;
}
