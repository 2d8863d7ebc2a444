-- Workers as numbers, and back: place by place.
use Rattle.std.specs.Prelude.{ℕ, zero, suc, ◌+◌, Bool, true, ◌&&◌, List, [], ◌∷◌, leb, eqb, length, get_or}
use Rattle.base.specs.If.{when◌then◌else◌}
use Rattle.base.specs.Number as number
use Rattle.scan.specs.Answer.{Said, refused}
use Rattle.worker.specs.declared.Place.{Place}
use Rattle.worker.specs.declared.Worker.{Worker}
use Rattle.worker.specs.Ring.{places}
use Rattle.worker.specs.Place as worker
use Rattle.crossing.specs.declared.ScanNumbers.{ScanNumbers}
use Rattle.crossing.specs.declared.PlaceNumbers.{PlaceNumbers}
use Rattle.crossing.specs.declared.WorkerNumbers.{WorkerNumbers}
use Rattle.crossing.specs.declared.CalledNumbers.{CalledNumbers}
use Rattle.crossing.specs.declared.StartedNumbers.{StartedNumbers}
use Rattle.crossing.specs.Answers.{answer_numbers}
use Rattle.crossing.specs.Scans.{scan_listed, scan_in, scan_out}

-- ---- a place

-- taken is 0 or 1
unfoldable pub place_listed : PlaceNumbers → Bool
place_listed c = leb c.taken 1 && scan_listed c.scan

unfoldable pub place_in : PlaceNumbers → Place
place_in c = record { taken = eqb c.taken 1; at = c.at; scan = scan_in c.scan }

unfoldable pub place_out : Place → PlaceNumbers
place_out p = record { scan = scan_out p.scan; at = p.at; taken = when p.taken then 1 else 0 }

-- ---- all places, one by one

-- what is read past the last place: every number 0
abbrev pub no_numbers : ScanNumbers
no_numbers =
    record {
      length = 0;
      start = 0;
      words = 0;
      at = 0;
      saved = 0;
      body = 0;
      joint = 0;
      fault = 0;
      line = 0;
      column = 0;
      kept_line = 0;
      kept_column = 0;
      fault_line = 0;
      fault_column = 0;
      used = 0;
      steps = 0;
      heard_offset = 0;
      depth = 0;
      last = 0;
      heard_number = 0;
      quote = 0;
      construct = 0;
      kind = 0;
      flags = 0;
      state = 0;
      back = 0;
      prefix = 0;
      site = 0;
      note = 0;
      tab = 0;
      heard = 0;
    }

abbrev pub beyond : PlaceNumbers
beyond = record { scan = no_numbers; at = 0; taken = 0 }

abbrev pub numbers_at : List PlaceNumbers → ℕ → PlaceNumbers
numbers_at cs k = get_or cs k beyond

-- a test of each of n numbers from k on, and what a function gives at each
unfoldable pub each : (ℕ → Bool) → ℕ → ℕ → Bool
each test k zero = true
each test k (suc n) = test k && each test (k + 1) n

unfoldable pub tabled : {A : Type 0} → (ℕ → A) → ℕ → ℕ → List A
tabled f k zero = []
tabled f k (suc n) = f k ∷ tabled f (k + 1) n

-- ---- a worker

unfoldable pub worker_listed : WorkerNumbers → Bool
worker_listed c = each (λ k. place_listed (numbers_at c.places k)) 0 places

unfoldable pub worker_in : WorkerNumbers → Worker
worker_in c = record { places = tabled (λ k. place_in (numbers_at c.places k)) 0 places; last = c.last; q = c.q; words = c.words }

unfoldable pub worker_out : Worker → WorkerNumbers
worker_out w =
    record { places = tabled (λ k. place_out (worker.place_in w.places k)) 0 places; last = w.last; q = w.q; words = w.words }

-- ---- what a call on a worker hands back

abbrev pub called_out : Worker → Said → CalledNumbers
called_out w answer = record { worker = worker_out w; answer = answer_numbers answer }

-- the numbers as they were handed over, and 12
abbrev pub called_refused : WorkerNumbers → CalledNumbers
called_refused c = record { worker = c; answer = answer_numbers refused }

-- a start says the length of the longest page that cannot run full, or nothing where there is none; no other answer says a length
abbrev pub lengths_said : Said → List ℕ
lengths_said a = when eqb a.number number.started then a.values else []

abbrev pub started_out : Worker → Said → StartedNumbers
started_out w a = record { worker = worker_out w; longest = get_or (lengths_said a) 0 0; number = a.number; fits = length (lengths_said a) }
