-- What `schedule` prints of a file; and the program as it runs, turn after turn.
-- Assumes nothing.
use Rattle.std.specs.Prelude.{◌≡◌, false, List, [], ◌++◌, ℕ, length, take, drop, Ok, Err}
use Rattle.std.proofs.Math.Option.{some}
use Rattle.transactions.specs.declared.Header.{Header}
use Rattle.transactions.specs.declared.Halt.{Halt}
use Rattle.transactions.specs.Readings.{HeaderRead}
use Rattle.model.specs.Model.{State, set_up}
use Rattle.lines.specs.Files.{stop_line, Prints}
use Rattle.windows.specs.declared.Window.{Window}
use Rattle.windows.specs.Windows.{Fetches}
use Rattle.schedule.specs.declared.Memory.{Memory}
use Rattle.schedule.specs.declared.Session.{Session}
use Rattle.schedule.specs.declared.Buffers.{Buffers}
use Rattle.schedule.specs.declared.Next.TheVariants.{On, Read, Over}
use Rattle.schedule.specs.declared.Turned.{Turned}
use Rattle.schedule.specs.SetUps.{set_up_result}
use Rattle.schedule.specs.Turns.{set_up_line, TurnBy, holding}

-- what is printed of the whole input: the stop of the header alone; or `set-up` and its result, and where that is 0, what is printed of the transactions behind the header, on a map as set-up leaves it
pub data PrintsFile (bytes : List ℕ) : List ℕ → Type 0 where
  stopped : (offset : ℕ) → HeaderRead bytes false (Err (Halt.Stop offset)) → PrintsFile bytes (stop_line offset)
  refused : (h : Header) (len : ℕ) → HeaderRead bytes false (Ok (h, len)) → (set_up_result h.capacity ≡ 0 → ⊥) → PrintsFile bytes (set_up_line (set_up_result h.capacity))
  ran : (h : Header) (len : ℕ) (s : State) (out : List ℕ) → HeaderRead bytes false (Ok (h, len)) → set_up_result h.capacity ≡ 0 → set_up h.capacity h.start.0 ≡ some s
      → Prints s 0 len (drop len bytes) out → PrintsFile bytes (set_up_line (set_up_result h.capacity) ++ out)

-- ---- turn after turn

-- the memory, the session, the bytes held, those still to be read, and what is printed
pub data Runs : Memory → Session → List ℕ → List ℕ → List ℕ → Type 0 where
  over : {m m' : Memory} {s s' : Session} {input later : List ℕ} {b b' : Buffers} {r : Turned} → TurnBy m s input b m' s' b' r → r.next ≡ Over
      → Runs m s input later (take r.length b'.out)
  on : {m m' : Memory} {s s' : Session} {input later rest : List ℕ} {b b' : Buffers} {r : Turned} → TurnBy m s input b m' s' b' r → r.next ≡ On
      → Runs m' s' input later rest → Runs m s input later (take r.length b'.out ++ rest)
  -- some bytes are read, or none, and then nothing is left to be read
  read : {m m' : Memory} {s s' : Session} {input input' later rest : List ℕ} {b b' : Buffers} {r : Turned} {w : Window} → TurnBy m s input b m' s' b' r → r.next ≡ Read
      → (f : Fetches s'.window input w input') → length input' ≡ length input → (w.more ≡ false → later ≡ [])
      → Runs m' (holding s' w) input' later rest → Runs m s input (f.got ++ later) (take r.length b'.out ++ rest)
