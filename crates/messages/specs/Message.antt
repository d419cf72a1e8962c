-- What is said on standard error, in ASCII.
use Rattle.std.specs.Prelude.{Bool, true, false, ◌&&◌, List, [], ◌∷◌, ◌++◌, ℕ, leb}
use Rattle.lines.specs.Line.{line_feed}
use Rattle.listing.specs.Listing.{listing_of, listing_fits}
use Rattle.jobs.specs.declared.Job.{Job}
use Rattle.jobs.specs.declared.Job.TheVariants.{Convert, Reproject, Salvage}
use Rattle.stream.specs.declared.state.Phase.{Phase}
use Rattle.stream.specs.declared.state.Phase.TheVariants.{Reading, Ended, NotStarted, NotRead, NotWritten, TooLong}

-- "convert: ", "reproject: " and "salvage: ", the names that the jobs go by
abbrev pub convert_name : List ℕ
convert_name =
    99 ∷ 111 ∷ 110 ∷ 118 ∷ 101 ∷ 114 ∷ 116 ∷ 58 ∷ 32 ∷ []

abbrev pub reproject_name : List ℕ
reproject_name =
    114 ∷ 101 ∷ 112 ∷ 114 ∷ 111 ∷ 106 ∷ 101 ∷ 99 ∷ 116 ∷ 58 ∷ 32 ∷ []

abbrev pub salvage_name : List ℕ
salvage_name = 115 ∷ 97 ∷ 108 ∷ 118 ∷ 97 ∷ 103 ∷ 101 ∷ 58 ∷ 32 ∷ []

unfoldable pub name_of : Job → List ℕ
name_of Convert = convert_name
name_of Reproject = reproject_name
name_of Salvage = salvage_name

-- the room of the longest
abbrev pub name_room : ℕ
name_room = 11

-- "standard input" and "standard output"
abbrev pub standard_input : List ℕ
standard_input =
    115 ∷ 116 ∷ 97 ∷ 110 ∷ 100 ∷ 97 ∷ 114 ∷ 100 ∷ 32 ∷ 105 ∷ 110 ∷ 112 ∷ 117 ∷ 116 ∷ []

abbrev pub standard_output : List ℕ
standard_output =
    115 ∷ 116 ∷ 97 ∷ 110 ∷ 100 ∷ 97 ∷ 114 ∷ 100 ∷ 32 ∷ 111 ∷ 117 ∷ 116 ∷ 112 ∷ 117 ∷ 116 ∷ []

-- ": too many reads"
abbrev pub too_many_reads : List ℕ
too_many_reads =
    58 ∷ 32 ∷ 116 ∷ 111 ∷ 111 ∷ 32 ∷ 109 ∷ 97 ∷ 110 ∷ 121 ∷ 32 ∷ 114 ∷ 101 ∷ 97 ∷ 100 ∷ 115 ∷ []

-- "takes no arguments, and reads "
abbrev pub takes_none : List ℕ
takes_none =
    116 ∷ 97 ∷ 107 ∷ 101 ∷ 115 ∷ 32 ∷ 110 ∷ 111 ∷ 32 ∷ 97 ∷ 114 ∷ 103 ∷ 117 ∷ 109 ∷ 101 ∷ 110 ∷ 116 ∷ 115 ∷ 44 ∷ 32 ∷ 97
    ∷ 110 ∷ 100 ∷ 32 ∷ 114 ∷ 101 ∷ 97 ∷ 100 ∷ 115 ∷ 32 ∷ []

-- ": more than 65536 bytes"
abbrev pub more_bytes : List ℕ
more_bytes =
    58 ∷ 32 ∷ 109 ∷ 111 ∷ 114 ∷ 101 ∷ 32 ∷ 116 ∷ 104 ∷ 97 ∷ 110 ∷ 32 ∷ 54 ∷ 53 ∷ 53 ∷ 51 ∷ 54 ∷ 32 ∷ 98 ∷ 121 ∷ 116 ∷ 101 ∷ 115 ∷ []

-- what is said where a run came to its end with the bytes that waited: `salvage` lists what it skipped and both counts
unfoldable pub ended_of : Job → List ℕ → List ℕ
ended_of Convert rest = []
ended_of Reproject rest = []
ended_of Salvage rest = listing_of rest

-- what is said where a run stops in a phase, with the bytes that waited then; behind NotRead and NotWritten comes the text of the error
unfoldable pub message_of : Job → Phase → List ℕ → List ℕ
message_of job Reading rest = name_of job ++ (standard_input ++ too_many_reads ++ line_feed)
message_of job Ended rest = ended_of job rest
message_of job NotStarted rest = name_of job ++ (takes_none ++ standard_input ++ line_feed)
message_of job NotRead rest = name_of job ++ standard_input
message_of job NotWritten rest = name_of job ++ standard_output
message_of job TooLong rest = name_of job ++ (standard_input ++ more_bytes ++ line_feed)

-- the room of all that is said but at the end
abbrev pub message_room : ℕ
message_room = 64

-- what is said at the end fits a text of this length
abbrev pub ended_fits : Job → List ℕ → ℕ → Bool
ended_fits Convert rest text = true
ended_fits Reproject rest text = true
ended_fits Salvage rest text = listing_fits rest text

abbrev pub phase_fits : Job → Phase → List ℕ → ℕ → Bool
phase_fits job Reading rest text = true
phase_fits job Ended rest text = ended_fits job rest text
phase_fits job NotStarted rest text = true
phase_fits job NotRead rest text = true
phase_fits job NotWritten rest text = true
phase_fits job TooLong rest text = true

abbrev pub message_fits : Job → Phase → List ℕ → ℕ → Bool
message_fits job phase rest text = leb message_room text && phase_fits job phase rest text

abbrev pub has_error : Phase → Bool
has_error Reading = false
has_error Ended = false
has_error NotStarted = false
has_error NotRead = true
has_error NotWritten = true
has_error TooLong = false
