-- A read behind what is held, after that was moved to the front.
-- Assumes nothing.
use Rattle.std.proofs.Common.{◌≡◌, sym, ap, ◌∙◌, List, ◌++◌, ℕ, ◌+◌, ◌-◌, ◌^◌, ◌≤◌, ◌<◌, ltb, length, take, drop, arith, length-drop}
use lib.Seq.{length-take-le, take-append-le, take-append-add, drop-append_seam}
use Rattle.windows.specs.declared.Window.{Window}
use Rattle.windows.specs.Windows.{count_of, held_in, Readable, Fetches}

-- the window after a read of so many bytes behind so many
abbrev pub widened : ℕ → ℕ → ℕ → Window
widened k n r = record { from = 0; to = k + n; read = r; more = ltb 0 n }

module _ {w : Window} {k n : ℕ} (b b₁ got behind : List ℕ) (e : k ≡ count_of w) (h : Readable w (length b)) (l : length b₁ ≡ length b) (f : take k b₁ ≡ held_in w b) (i : n ≤ length got) where
  front_length : length (take k b₁) ≡ k
  front_length = length-take-le k b₁ (omega (arith, h.room))

  read_front : (r : ℕ) → held_in (widened k n r) (take k b₁ ++ (got ++ behind)) ≡ take k b₁ ++ take n got
  read_front r =
      let t : k + n - 0 ≡ length (take k b₁) + n = omega (arith, front_length) in
      rw (t, take-append-add (take k b₁) (got ++ behind) n, take-append-le n got behind i)

  -- LAW: what was held comes first, whatever was read behind it
  pub fetched : {r : ℕ} → length got ≡ length (take (length b₁ - k) (drop k b₁)) → r ≡ w.read + n → r < 2 ^ 64 → Fetches w b (widened k n r) (take k b₁ ++ (got ++ behind))
  fetched {r} g s v =
      let t : length (take n got) ≡ n = length-take-le n got i in
      let d = length-drop k b₁ in
      let m : k + n ≤ length b = omega (arith, h.room, length-take-le (length b₁ - k) (drop k b₁) (omega arith)) in
      record {
        got = take n got;
        room = h.room;
        held = record { order = omega arith; inside = m; counted = omega (arith, h.held.order, h.held.counted); known = v };
        place = omega (arith, h.held.order, h.held.counted);
        bytes = read_front r ∙ ap (λ x. x ++ take n got) f;
        read = omega arith;
        more = ap (ltb 0) (sym t);
      }

  -- LAW: behind what was held are the bytes that were read
  pub came : (r : ℕ) → drop (count_of w) (held_in (widened k n r) (take k b₁ ++ (got ++ behind))) ≡ take n got
  came r = rw (read_front r, ← e) (rw front_length at (drop-append_seam (take k b₁) (take n got)))
