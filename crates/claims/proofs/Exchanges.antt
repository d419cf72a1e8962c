-- The exchange of kinds 3 and 4, and the worked records: by computing.
use mathlib.Core.Path.{refl}
use Rattle.whole.specs.Nearest.{nearest, carry}
use Rattle.whole.specs.Root.{root, root_in}
use Rattle.parallel.specs.Table.{rows, row_of}
use Rattle.parallel.specs.Parallel.{radicand, q_by, q_at, one_by, one_of, numerator, half_width, height}
use Rattle.parallel.specs.Latitude.{y_of, latitude_size, latitude_at, width_at}
use Rattle.refusal.specs.Outcome.{unless}
use Rattle.parallel.specs.Refusal.{is_kind}
use Rattle.parallel.specs.Answer.{width_of}
use Rattle.projection.specs.Longitude.{wrap}
use Rattle.projection.specs.Forward.{x_of, place_of}
use Rattle.projection.specs.Inverse.{difference_at, position_of}
use Rattle.projection.specs.Answer.{forward_of, inverse_of}
use Rattle.little_endian.specs.Number.{bytes_of, number_at}
use Rattle.record.specs.Record.{record_of}
use Rattle.record.specs.Records.{record_at, tail_of}
use Rattle.reprojection.specs.Retired.{retired, retired_row, back_under}
use Rattle.reprojection.specs.Reprojected.{position_in, place_in, reprojected}
use Rattle.reprojection.specs.All.{first_reprojected, whole_reprojected, reprojected_all}
use Rattle.claims.specs.Exchange.{Exchange}
use Rattle.claims.specs.ReprojectionExamples.{ReprojectionExamples}

pub exchange : Exchange
unfolding width_of inverse_of unless is_kind position_of latitude_at latitude_size width_at difference_at height wrap row_of rows retired_row retired
    half_width numerator one_of one_by q_at radicand q_by root root_in nearest carry
exchange =
    record {
      exchanged_3 = record { kx_new = refl; a_new = refl; b_new = refl; ky_same = refl; e_same = refl; method_same = refl };
      exchanged_4 = record { kx_new = refl; a_new = refl; b_new = refl; ky_same = refl; e_same = refl; method_same = refl };
      retired_3 = refl;
      retired_4 = refl;
      pole_3 = (refl, refl);
      pole_4 = (refl, refl);
      equator = (refl, refl);
      point = (refl, refl);
      line = (refl, refl);
      wide = refl;
      narrow = refl;
    }

pub reprojection_examples : ReprojectionExamples
unfolding reprojected_all whole_reprojected first_reprojected record_at tail_of reprojected place_in position_in back_under retired_row retired
    forward_of inverse_of unless is_kind place_of x_of y_of position_of latitude_at latitude_size width_at difference_at height wrap row_of rows
    half_width numerator one_of one_by q_at radicand q_by root root_in nearest carry record_of bytes_of number_at
reprojection_examples =
    record {
      stored_is = refl;
      made_is = refl;
      once_3 = refl;
      once_4 = refl;
      forward = refl;
      back = refl;
      again = refl;
      astray = refl;
      pole_end = refl;
      pole_middle = refl;
      between = refl;
      beside = refl;
      other_edge = refl;
      empty = refl;
      torn = refl;
    }
