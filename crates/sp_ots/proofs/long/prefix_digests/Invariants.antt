use Rattle.std.proofs.Common.{◌≡◌, ◌<◌, ◌≤◌, All, length, take}
use Rattle.sha2.specs.Sha256.{hash_after, initial_hash_256, padded_message}
use Rattle.sp_ots.specs.Lanes.{columns}
use Rattle.sp_ots.proofs.long.prefix_digests.Given as goal

abbrev pub invariant-next : goal.invariant-next
invariant-next g l = record {
  hash : l.hash ≡ columns (λ m. hash_after initial_hash_256 (padded_message (take l.len m)) l.n) l.messages;
  long : 0 < l.n → All (λ m. l.len ≤ length m) l.messages;
}
