-- The numbers of the answers that no state of a scan has: those of docs/SCOPE.md, 'The answer table', and those that the table does not
-- number ("Asking, Paused (both with the state to go on with), a worker started, an admission's place, a verdict kept, Idle, the place a
-- turn served and a body are answers too"), which follow the number of Asking. The others are in State.antt.
use Rattle.std.specs.Prelude.{ℕ}

abbrev pub too_long : ℕ
too_long = 2

abbrev pub bad_start : ℕ
bad_start = 3

abbrev pub bad_text : ℕ
bad_text = 4

abbrev pub no_place : ℕ
no_place = 11

abbrev pub bad_call : ℕ
bad_call = 12

abbrev pub paused : ℕ
paused = 32

abbrev pub kept : ℕ
kept = 33

abbrev pub started : ℕ
started = 34

abbrev pub placed : ℕ
placed = 35

abbrev pub served : ℕ
served = 36

abbrev pub idle : ℕ
idle = 37

-- a body: a part of the page, or of the scratch
abbrev pub in_page : ℕ
in_page = 38

abbrev pub in_scratch : ℕ
in_scratch = 39

-- words enough for a page
abbrev pub enough : ℕ
enough = 40
