-- The tag of a frame: HMAC of all bytes before it under the key of the link.
use Rattle.std.specs.Prelude.{ℕ, Bool, List, ◌++◌, nat_eq}
use Rattle.std.specs.Cmp.Lexicographic.{pointwise}
use Rattle.sp_frame.specs.Frames.{tagged_part, tag_part}
use Rattle.sp_hmac.specs.Hmac.{hmac}

-- the tag of a frame is the right one
unfoldable pub is_right : List ℕ → List ℕ → Bool
is_right key bytes = pointwise nat_eq (tag_part bytes) (hmac key (tagged_part bytes))

-- the frame with the right tag in its last 32 bytes
abbrev pub sealed : List ℕ → List ℕ → List ℕ
sealed key bytes = tagged_part bytes ++ hmac key (tagged_part bytes)
