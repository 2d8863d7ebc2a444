-- The places of a worker, and the ranges of its numbers.
--
-- docs/SCOPE.md, 'The worker': 12 is given for "a state outside the ranges docs/ lists (all that calls give are inside), a place number
-- above 15 or empty". A call tests the worker's own numbers and the place that it is about.
use Rattle.std.specs.Prelude.{ℕ, Bool, true, false, not, ◌&&◌, ◌||◌, List, [], ◌∷◌, leb, ltb, eqb, length, get_or, set}
use Rattle.base.specs.State.{asking, first_running}
use Rattle.base.specs.declared.InTab.TheVariants.{Outside}
use Rattle.base.specs.declared.Verdict.TheVariants.{Fine}
use Rattle.events.specs.Share.{share_of}
use Rattle.page.specs.declared.line.Line.{Line}
use Rattle.tokenizer.specs.Registers.{no_regs}
use Rattle.scan.specs.declared.Scan.{Scan}
use Rattle.scan.specs.Lines.{lines_of}
use Rattle.scan.specs.Call.{scan_in_range, no_scan}
use Rattle.worker.specs.declared.Place.{Place}
use Rattle.worker.specs.declared.Worker.{Worker}
use Rattle.worker.specs.Ring.{places, after, seek}

-- "a turn size q of 1 to 4096"
abbrev pub longest_turn : ℕ
longest_turn = 4096

-- ---- one place

abbrev pub place_of : Bool → ℕ → Scan → Place
place_of taken at s = record { taken = taken; at = at; scan = s }

-- a free place holds always the same
abbrev pub free_place : Place
free_place = place_of false 0 no_scan

abbrev pub state_of : Place → ℕ
state_of p = p.scan.tokenizer.state

-- its page neither asks nor has ended
abbrev pub running : Place → Bool
running p = p.taken && leb first_running (state_of p)

-- its scan has ended
abbrev pub ended : Place → Bool
ended p = ltb (state_of p) asking

-- its scan is one that a call can have given, over a share of n words
unfoldable pub place_in_range : ℕ → Place → Bool
place_in_range n p = eqb p.scan.tokenizer.job.words n && scan_in_range p.scan

-- ---- the places of a worker

-- what is read past the last place: every number 0, and not taken
abbrev no_line : Line
no_line = record { number = 0; column = 0 }

abbrev pub beyond : Place
beyond =
    place_of false 0
    (record {
      tokenizer = record { job = no_scan.tokenizer.job; state = 0; at = 0; regs = no_regs; heard = Fine };
      lines = lines_of no_line Outside no_line no_line;
      used = 0;
      steps = 0;
    })

abbrev pub place_in : List Place → ℕ → Place
place_in ps i = get_or ps i beyond

-- the next running place after the one last served, and the lowest free one; `places` where there is none
abbrev pub next_in : List Place → ℕ → ℕ
next_in ps last = seek (λ k. running (place_in ps k)) (after last) places

abbrev pub lowest_in : List Place → ℕ
lowest_in ps = seek (λ k. not (place_in ps k).taken) 0 places

-- place i replaced, and the place last served
abbrev pub stored : Worker → ℕ → Place → ℕ → Worker
stored w i p last = record { places = set w.places i p; last = last; q = w.q; words = w.words }

-- ---- the ranges

-- of a worker's own numbers
unfoldable pub worker_in_range : Worker → Bool
worker_in_range w = ltb w.last places && (leb 1 w.q && leb w.q longest_turn)

-- a place i that there is, that is taken, and whose scan is in range
unfoldable pub holds : ℕ → Worker → Bool
holds i w =
    ltb i places
    && (worker_in_range w
    && ((place_in w.places i).taken && place_in_range (share_of w.words) (place_in w.places i)))

-- every place is free, or in range
unfoldable pub each_in_range : ℕ → List Place → Bool
each_in_range n [] = true
each_in_range n (p ∷ ps) = (not p.taken || place_in_range n p) && each_in_range n ps

-- of all that a worker has
unfoldable pub all_in_range : Worker → Bool
all_in_range w = worker_in_range w && (eqb (length w.places) places && each_in_range (share_of w.words) w.places)
