mod NotesSent
mod ChannelsSent
