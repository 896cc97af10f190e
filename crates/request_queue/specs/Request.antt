-- Requests in the order of their stamps.
use Rattle.std.specs.Prelude.{Bool, true, nat_lt, nat_le, ◌==◌, ◌||◌, ◌&&◌, if◌then◌else◌, List, [], ◌∷◌}
use Rattle.request_queue.specs.declared.request.Request.{Request}

-- v stands before w: by ascending stamp, and of one stamp by ascending sender
abbrev pub stands_before : Request → Request → Bool
stands_before v w = nat_lt v.stamp w.stamp || ((v.stamp == w.stamp) && nat_le v.from w.from)

-- a request goes behind those that stand before it, of equals behind those that came earlier
abbrev pub insert : Request → List Request → List Request
insert w [] = w ∷ []
insert w (v ∷ vs) = if stands_before v w then v ∷ insert w vs else w ∷ v ∷ vs

-- a request stands before the first of these, where there is one
abbrev pub comes_first : Request → List Request → Bool
comes_first w [] = true
comes_first w (v ∷ vs) = stands_before w v

-- each request stands before the next
abbrev pub is_sorted : List Request → Bool
is_sorted [] = true
is_sorted (w ∷ ws) = comes_first w ws && is_sorted ws
