-- What is reported about services as metrics, in Prometheus' text exposition format
-- (prometheus.io/docs/instrumenting/exposition_formats). Each line has a sample. Those of one metric are together,
-- after its help.
use Rattle.std.specs.Prelude.{ℕ, ◌-◌, ◌==◌, Bool, true, false, if◌then◌else◌, List, [], ◌∷◌, ◌++◌, codes, decimal}
use Rattle.std.specs.Prelude.{flat_map, bytes_eq, is_some, Option, Some, None}
use Rattle.tai_status.specs.Label.{Tai64n, from_unix}
use Rattle.tai_status.specs.Record.{flag_byte}
use Rattle.tai_status.specs.Loading.{status_in}
use Rattle.tai_status.specs.Phase.{phase_name}
use Rattle.tai_status.specs.declared.phase.Phase.{Phase}
use Rattle.tai_status.specs.declared.phase.Phase.TheVariants as phase
use Rattle.tai_status.specs.declared.loading.Loaded.{Loaded}
use Rattle.tai_status.specs.declared.loading.Loaded.TheVariants.{Old, New}
use Rattle.cmd_svc.specs.Line.{is_running, seconds, wants_up}
use Rattle.cmd_svc.specs.declared.course.Course.{Course}
use Rattle.cmd_svc.specs.declared.course.Course.TheVariants.{BackingOff, Finishing, Ready}
use Rattle.cmd_svc.specs.declared.look.ServiceLook.{ServiceLook}
use Rattle.cmd_svc.specs.declared.look.ServiceLook.TheVariants as look
use Rattle.svc_record.specs.declared.ending.Ending.{Ending}
use Rattle.svc_record.specs.declared.ending.Ending.TheVariants.{Status, Signal}
use Rattle.svc_record.specs.declared.exit.Exit.{Exit}
use Rattle.svc_record.specs.declared.counts.Counts.{Counts}
use Rattle.cmd_report.specs.declared.found.FoundService.{FoundService}
use Rattle.cmd_report.specs.declared.samples.Sample.{Sample}
use Rattle.cmd_report.specs.declared.samples.Sample.TheVariants as sample

-- Values

-- whether a supervisor responded
abbrev pub is_supervised : ServiceLook → Bool
is_supervised (look.Unreached why) = false
is_supervised other = true

-- whether supervise is in a phase, if a record says that
abbrev pub phase_value : Phase → Loaded → Option ℕ
phase_value phase (Old status) = None
phase_value phase (New full) = Some (flag_byte (bytes_eq (phase_name full.phase) (phase_name phase)))

-- the second of Unix time of a label, or 0 if it is before 1970 UTC
abbrev pub unix_second : Tai64n → ℕ
unix_second label = label.sec - (from_unix 0 0).sec

abbrev pub standing_value : Sample → Loaded → (now : Tai64n) → Option ℕ
standing_value sample.Up loaded now = Some (flag_byte (is_running (status_in loaded)))
standing_value sample.Seconds loaded now = Some (seconds (status_in loaded) now)
standing_value sample.Since loaded now = Some (unix_second (status_in loaded).label)
standing_value (sample.InPhase phase) loaded now = phase_value phase loaded
standing_value sample.WantedUp loaded now = Some (flag_byte (wants_up (status_in loaded).want))
standing_value sample.Paused loaded now = Some (flag_byte (status_in loaded).paused)
standing_value other loaded now = None

-- when the process of a service said that it is ready, and until when its next start waits, in Unix time
abbrev pub ready_in : Course → Option ℕ
ready_in (Ready label) = Some (unix_second label)
ready_in other = None

abbrev pub backoff_in : Course → Option ℕ
backoff_in (BackingOff until) = Some (unix_second until)
backoff_in other = None

-- whether the `finish` of a service runs
abbrev pub is_finishing : Course → Bool
is_finishing Finishing = true
is_finishing other = false

abbrev pub look_value : Sample → ServiceLook → Option ℕ
look_value sample.Ready (look.Standing loaded normally_up now course) = Some (flag_byte (is_some (ready_in course)))
look_value sample.Finishing (look.Standing loaded normally_up now course) = Some (flag_byte (is_finishing course))
look_value sample.BackingOff (look.Standing loaded normally_up now course) =
    Some (flag_byte (is_some (backoff_in course)))
look_value sample (look.Standing loaded normally_up now course) = standing_value sample loaded now
look_value sample other = None

abbrev pub starts_in : Option Counts → Option ℕ
starts_in None = None
starts_in (Some counts) = Some counts.starts

abbrev pub deaths_in : Option Counts → Option ℕ
deaths_in None = None
deaths_in (Some counts) = Some counts.deaths

-- the status with which a process exited, and the number of the signal that ended it
abbrev pub status_of : Ending → Option ℕ
status_of (Status code) = Some code
status_of other = None

abbrev pub signal_of : Ending → Option ℕ
signal_of (Signal number) = Some number
signal_of other = None

abbrev pub status_of_last : Option Exit → Option ℕ
status_of_last None = None
status_of_last (Some exit) = status_of exit.ending

abbrev pub signal_of_last : Option Exit → Option ℕ
signal_of_last None = None
signal_of_last (Some exit) = signal_of exit.ending

-- the value of a sample of a service, if there is one
unfoldable pub value_in : Sample → FoundService → Option ℕ
value_in sample.Supervised found = Some (flag_byte (is_supervised found.look))
value_in sample.Starts found = starts_in found.counts
value_in sample.Deaths found = deaths_in found.counts
value_in sample.LastStatus found = status_of_last found.last
value_in sample.LastSignal found = signal_of_last found.last
value_in other found = look_value other found.look

-- Text

-- what is in the value of a label for a byte
unfoldable pub label_byte : ℕ → List ℕ
label_byte byte =
    if byte == 92 then codes "\\\\"
    else if byte == 34 then codes "\\\""
    else if byte == 10 then codes "\\n"
    else byte ∷ []

abbrev pub label_text : List ℕ → List ℕ
label_text text = flat_map label_byte text

-- the name of a sample's metric
abbrev pub metric_name : Sample → List ℕ
metric_name sample.Supervised = codes "dtools_service_supervised"
metric_name sample.Up = codes "dtools_service_up"
metric_name sample.Seconds = codes "dtools_service_seconds"
metric_name sample.Since = codes "dtools_service_since_timestamp_seconds"
metric_name (sample.InPhase phase) = codes "dtools_service_phase"
metric_name sample.WantedUp = codes "dtools_service_wanted_up"
metric_name sample.Paused = codes "dtools_service_paused"
metric_name sample.Ready = codes "dtools_service_ready"
metric_name sample.BackingOff = codes "dtools_service_backing_off"
metric_name sample.Finishing = codes "dtools_service_finishing"
metric_name sample.Starts = codes "dtools_service_starts_total"
metric_name sample.Deaths = codes "dtools_service_deaths_total"
metric_name sample.LastStatus = codes "dtools_service_last_exit_status"
metric_name sample.LastSignal = codes "dtools_service_last_signal"

-- the labels of a sample after that of its service
unfoldable pub more_labels : Sample → List ℕ
more_labels (sample.InPhase phase) = codes ",phase=\"" ++ phase_name phase ++ codes "\""
more_labels other = []

-- a value, at the end of a line
unfoldable pub value_end : ℕ → List ℕ
value_end value = codes "} " ++ decimal value ++ 10 ∷ []

-- the line of a sample with this value
unfoldable pub valued_line : Sample → (folder : List ℕ) → ℕ → List ℕ
valued_line sample folder value =
    metric_name sample ++ codes "{service=\"" ++ label_text folder ++ codes "\"" ++ more_labels sample
    ++ value_end value

abbrev pub line_of_value : Sample → (folder : List ℕ) → Option ℕ → List ℕ
line_of_value sample folder None = []
line_of_value sample folder (Some value) = valued_line sample folder value

abbrev pub sample_line : Sample → FoundService → List ℕ
sample_line sample found = line_of_value sample found.folder.now (value_in sample found)

-- what a metric says, in words
abbrev pub metric_help : Sample → List ℕ
metric_help sample.Supervised = codes "Whether the supervisor of the service accepts connections."
metric_help sample.Up = codes "Whether the service runs."
metric_help sample.Seconds = codes "Seconds since the last start or end of its process."
metric_help sample.Since = codes "Unix time of the last start or end of its process."
metric_help (sample.InPhase phase) = codes "Whether supervision of the service is in this phase."
metric_help sample.WantedUp = codes "Whether the service is to be up."
metric_help sample.Ready = codes "Whether the process of the service said that it is ready."
metric_help sample.BackingOff = codes "Whether the next start of the service waits."
metric_help sample.Finishing = codes "Whether the finish of the service runs."
metric_help sample.Paused = codes "Whether the process of the service is paused."
metric_help sample.Starts = codes "Starts of its process since svscan began."
metric_help sample.Deaths = codes "Ends of its process since svscan began."
metric_help sample.LastStatus = codes "Status of its last process that ended, if that exited."
metric_help sample.LastSignal = codes "Signal that ended its last process that ended, if one did."

-- the type of a metric: the numbers of starts and ends only rise
abbrev pub metric_type : Sample → List ℕ
metric_type sample.Starts = codes "counter"
metric_type sample.Deaths = codes "counter"
metric_type other = codes "gauge"

-- the help and the type of a sample's metric
unfoldable pub metric_head : Sample → List ℕ
metric_head sample =
    codes "# HELP " ++ metric_name sample ++ codes " " ++ metric_help sample
    ++ codes "\n# TYPE " ++ metric_name sample ++ codes " " ++ metric_type sample ++ codes "\n"

-- they come before the first sample of the metric
abbrev pub head_text : Sample → List ℕ
head_text (sample.InPhase phase.Starting) = metric_head (sample.InPhase phase.Starting)
head_text (sample.InPhase other) = []
head_text sample = metric_head sample

-- a sample of each service that has it
abbrev pub sample_lines : Sample → List FoundService → List ℕ
sample_lines sample founds = head_text sample ++ flat_map (sample_line sample) founds

-- all samples, with those of one metric together
abbrev pub all_samples : List Sample
all_samples =
    sample.Supervised ∷ sample.Up ∷ sample.Seconds ∷ sample.Since ∷ sample.InPhase phase.Starting
    ∷ sample.InPhase phase.Settling ∷ sample.InPhase phase.Up ∷ sample.InPhase phase.Down ∷ sample.InPhase phase.Resting
    ∷ sample.InPhase phase.Gone ∷ sample.WantedUp ∷ sample.Paused ∷ sample.Ready ∷ sample.Finishing
    ∷ sample.BackingOff ∷ sample.Starts ∷ sample.Deaths ∷ sample.LastStatus ∷ sample.LastSignal ∷ []

unfoldable pub metrics_text : List FoundService → List ℕ
metrics_text founds = flat_map (λ sample. sample_lines sample founds) all_samples
