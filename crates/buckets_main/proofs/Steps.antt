-- The memory of the demonstration after each step: its one node is present, then it is not.
-- Assumes nothing.
use mathlib.Core.Path.{◌≡◌, ◌∙◌, ap}
use mathlib.Core.List.{List}
use Prim.Native.Nat.{ℕ, ◌/◌, ◌<◌}
use native.Mathlib.Omega.{arith}
use native.Mathlib.Decide.{ℕ_discrete}
use lib.ListN.{length, get_or, set, replicate, length-replicate, get_or-replicate, length-set}
use lib.Seq.{get_or-set_same, get_or-set_other}
use Rattle.rows.specs.Rows.{address, put, upd, chains, places}
use Rattle.rows.proofs.Columns.{column_in, inside, upd_same, upd_other, length_put, column_same, column_other}
use Rattle.buckets.specs.Buckets.{first_of, Buckets}
use Rattle.buckets.specs.Finding.{Holds}
use Rattle.buckets.specs.Changes.{rows_with, buckets_with, rows_without, buckets_without}
use Rattle.buckets.proofs.Framing.{with_column, with_rows, chains_with, without_column, without_rows, chains_without, chains_without_lem}
use Rattle.buckets.proofs.Keeping.{buckets_fresh, buckets_added, buckets_dropped, on_chain}
use Rattle.buckets_main.specs.Fresh.{Fresh}

pub row_count : (rows : List ℕ) → rows ≡ replicate 2112 0 → length rows ≡ 2112
row_count rows e = ap (length {A = ℕ}) e ∙ length-replicate {A = ℕ} 2112 0

place_zero : (rows : List ℕ) → rows ≡ replicate 2112 0 → (n : ℕ) → n < 64 → places rows n ≡ 0
place_zero rows e n l =
    let k : length rows ≡ 2112 = row_count rows e in
    let h : n < length rows / 32 = omega (arith, k) in
    let i = inside (length rows / 32) n 3 h (omega arith) in
    column_in rows 3 n h
    ∙ ap (λ r. get_or r (address (length rows / 32) n 3) 0) e
    ∙ get_or-replicate 2112 (address (length rows / 32) n 3) 0 0 (omega (arith, i, k))

-- cleared: no node is present
pub cleared : (keys rows buckets buckets' : List ℕ) → Fresh keys rows buckets → buckets' ≡ replicate (length buckets) 64 → Buckets keys rows buckets' 64
cleared keys rows buckets buckets' f e =
    rw e
    (buckets_fresh keys rows (length buckets) 64
    (record { keyed = omega (arith, f.keyed); rowed = omega (arith, row_count rows f.rowed); some = omega (arith, f.many) })
    (λ n l h. let z = place_zero rows f.rowed n l in omega arith))

-- the node 3, and no other, is present, with this rank
pub record Joined (keys rows buckets : List ℕ) (rank : ℕ) : Type 0 where
  pub rowed : length rows ≡ 2112
  pub table : Buckets keys rows buckets 64
  pub held : Holds keys rows 64 rank 3
  pub only : (n : ℕ) → Holds keys rows 64 rank n → n ≡ 3

module _ (keys rows buckets : List ℕ) (f : Fresh keys rows buckets) (rank : ℕ) where
  pub joined : (buckets₁ rows₂ buckets₂ rows₃ : List ℕ) → buckets₁ ≡ replicate (length buckets) 64
      → (rows₂ ≡ rows_with rows buckets₁ rank 3) × (buckets₂ ≡ buckets_with buckets₁ rank 3) → rows₃ ≡ put rows₂ 3 3 1
      → Joined (set keys 3 rank) rows₃ buckets₂ rank
  joined buckets₁ rows₂ buckets₂ rows₃ e₁ e₂ e₃ =
      let l = row_count rows f.rowed in
      let l₂ : length rows₂ ≡ 2112 = ap (length {A = ℕ}) e₂.0 ∙ (with_rows rows buckets₁ rank 3 ∙ l) in
      let l₃ : length rows₃ ≡ 2112 = ap (length {A = ℕ}) e₃ ∙ (length_put rows₂ 3 3 1 ∙ l₂) in
      let ec : chains rows₃ ≡ upd (chains rows) 3 (first_of buckets₁ rank) =
      ap chains e₃ ∙ (column_other rows₂ 3 3 1 5 (omega arith) (omega arith) (λ q. omega arith) ∙ (ap chains e₂.0 ∙ chains_with rows buckets₁ rank 3 (omega arith))) in
      let ep : places rows₃ ≡ upd (places rows) 3 1 =
      ap places e₃
      ∙ (column_same rows₂ 3 3 1 (omega arith) (omega arith)
      ∙ ap (λ (g : ℕ → ℕ). upd g 3 1) (ap places e₂.0 ∙ with_column rows buckets₁ rank 3 3 (omega arith) (λ q. omega arith))) in
      record {
        rowed = l₃;
        table =
            buckets_added keys rows buckets₁ 64 (cleared keys rows buckets buckets₁ f e₁) 3 rank (set keys 3 rank) rows₃ buckets₂ (omega arith)
            (λ h. let z = place_zero rows f.rowed 3 (omega arith) in omega arith)
            (omega (arith, length-set keys 3 rank, f.keyed)) (omega arith)
            (get_or-set_same keys 3 rank 0 (omega (arith, f.keyed))) (λ m d. get_or-set_other keys 3 m rank 0 d) ec ep e₂.1;
        held = record {
          node = omega arith;
          here = ap (λ (g : ℕ → ℕ). g 3) ep ∙ upd_same (places rows) 3 1;
          key = get_or-set_same keys 3 rank 0 (omega (arith, f.keyed));
        };
        only = λ n h. one ep n h (ℕ_discrete n 3);
      }
    where
      one : places rows₃ ≡ upd (places rows) 3 1 → (n : ℕ) → Holds (set keys 3 rank) rows₃ 64 rank n → Dec (n ≡ 3) → n ≡ 3
      one ep n h (yes e) = e
      one ep n h (no d) =
          let z : places rows₃ n ≡ 0 = ap (λ (g : ℕ → ℕ). g n) ep ∙ (upd_other (places rows) 3 1 n d ∙ place_zero rows f.rowed n h.node) in
          let w = h.here in
          absurd (omega arith)

-- the node leaves, and is pending
pub dropped : (keys rows buckets : List ℕ) (rank : ℕ) → Joined keys rows buckets rank → (rows₁ buckets₁ rows₂ : List ℕ)
    → (rows₁ ≡ rows_without rows buckets 64 rank 3) × (buckets₁ ≡ buckets_without rows buckets rank 3) → rows₂ ≡ put rows₁ 3 3 2
    → Buckets keys rows₂ buckets₁ 64
dropped keys rows buckets rank j rows₁ buckets₁ rows₂ e₁ e₂ =
    let o = on_chain keys rows buckets 64 j.table rank 3 j.held in
    let l₁ : length rows₁ ≡ 2112 = ap (length {A = ℕ}) e₁.0 ∙ (without_rows rows buckets rank 3 64 ∙ j.rowed) in
    let l₂ : length rows₂ ≡ 2112 = ap (length {A = ℕ}) e₂ ∙ (length_put rows₁ 3 3 2 ∙ l₁) in
    let ec : chains rows₂ ≡ chains_without (chains rows) 64 (first_of buckets rank) 3 =
    ap chains e₂ ∙ (column_other rows₁ 3 3 2 5 (omega arith) (omega arith) (λ q. omega arith) ∙ (ap chains e₁.0 ∙ chains_without_lem rows buckets 64 rank 3 o)) in
    let ep : places rows₂ ≡ upd (places rows) 3 2 =
    ap places e₂
    ∙ (column_same rows₁ 3 3 2 (omega arith) (omega arith)
    ∙ ap (λ (g : ℕ → ℕ). upd g 3 2) (ap places e₁.0 ∙ without_column rows buckets rank 3 64 3 (omega arith) (λ q. omega arith))) in
    buckets_dropped keys rows buckets 64 j.table 3 rank 2 rows₂ buckets₁ j.held (λ q. omega arith) (omega arith) ec ep e₁.1
