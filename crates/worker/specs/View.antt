-- What a place waits for, and where in the lent memory what it has stands.
--
-- docs/SCOPE.md, 'From other languages': "what a place is waiting for (it runs, asks, has ended, or is free), the kind of body that it asks
-- about, and where its page and its events are". A call tests the worker's own numbers and the place that it is about, as the others do.
use Rattle.std.specs.Prelude.{ℕ, ◌&&◌, leb, ltb, eqb}
use Rattle.base.specs.If.{when◌then◌else◌}
use Rattle.base.specs.Number.{bad_call}
use Rattle.base.specs.State.{asking, first_running}
use Rattle.events.specs.Share.{share_of}
use Rattle.mdx_collect.specs.Kind.{body_kind}
use Rattle.worker.specs.declared.Place.{Place}
use Rattle.worker.specs.declared.Worker.{Worker}
use Rattle.worker.specs.declared.viewing.View.{View}
use Rattle.worker.specs.Ring.{places}
use Rattle.worker.specs.Place.{place_in, place_in_range, worker_in_range, state_of}
use Rattle.worker.specs.Worker.{start_at}

-- a page, a turn, a verdict, to be collected
abbrev pub free : ℕ
free = 0

abbrev pub runs : ℕ
runs = 1

abbrev pub asks : ℕ
asks = 2

abbrev pub has_ended : ℕ
has_ended = 3

-- by the state of the scan
abbrev pub waits_for : ℕ → ℕ
waits_for name = when leb first_running name then runs else when eqb name asking then asks else has_ended

-- of a place with no page, or where there is no place
abbrev pub nothing_seen : ℕ → View
nothing_seen waits = record { at = 0; length = 0; first = 0; events = 0; waits = waits; body = 0 }

-- of a place with a page, whose share begins at a word
abbrev pub seen_of : Place → ℕ → View
seen_of p first =
    record {
      at = p.at;
      length = p.scan.tokenizer.job.length;
      first = first;
      events = p.scan.used;
      waits = waits_for (state_of p);
      body = body_kind p.scan;
    }

-- 12 where there is no such place, or where no call gave what is there
unfoldable pub view_of : ℕ → Worker → View
view_of i w =
    when ltb i places && worker_in_range w then
    (when (place_in w.places i).taken then
    (when place_in_range (share_of w.words) (place_in w.places i) then seen_of (place_in w.places i) (start_at i w) else nothing_seen bad_call)
    else nothing_seen free)
    else nothing_seen bad_call
